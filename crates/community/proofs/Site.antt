-- The network of a site image is sound: its neighbour relation is reflexive and symmetric, epsilon is at most 1, mu is not 0.
use Rattle.std.specs.Prelude.{Option}
use Prim.Native.Nat.{ℕ, zero, suc, ◌≤◌}
use native.Mathlib.Omega.{arith}
use mathlib.Core.Path.{◌≡◌, sym, ap, subst}
use mathlib.Core.List.{List}
use lib.Dec.{T}
use Rattle.fields.specs.Fields.{core_size}
use Rattle.image.specs.Image.{header_of, epsilon_num, epsilon_den, mu}
use Rattle.image.specs.Questions.{Accepted}
use Rattle.near.specs.Near.{is_near, neighbour}
use Rattle.image.proofs.Acceptance.{accepted_fits}
use Rattle.near.proofs.Near.{proximity_comm, near_itself}
use Rattle.community.specs.Site.{network}
use Rattle.community.specs.ForProofs.{Sound}

pub neighbour_comm : (s : List ℕ) (u v : ℕ) → neighbour s u v ≡ neighbour s v u
unfolding neighbour
neighbour_comm s u v = ap is_near (proximity_comm s u v)

pub neighbour_self : (s : List ℕ) (u : ℕ) → T (neighbour s u u)
unfolding neighbour is_near
neighbour_self s u = subst (λ (p : Option ℕ). T (is_near p)) (sym (near_itself s u)) tt

core_size_some : (m : ℕ) → 1 ≤ core_size m
core_size_some zero = omega arith
core_size_some (suc m) = omega arith

pub network_sound : (s : List ℕ) → epsilon_num s ≤ epsilon_den s → Sound (network s)
unfolding mu
network_sound s h =
    record { neighbour_self = λ u v t. neighbour_self s u; neighbour_sym = neighbour_comm s; at_most_one = h; mu_some = core_size_some (header_of s).mu }

pub accepted_sound : (s : List ℕ) → Accepted s → Sound (network s)
accepted_sound s a = network_sound s (accepted_fits s a).p_q
