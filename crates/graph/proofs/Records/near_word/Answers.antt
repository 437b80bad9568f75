use Prim.Native.Nat.{ℕ, zero, suc, ◌+◌, ◌*◌, ◌-◌, ◌%◌, ◌^◌, ◌≤◌, ◌<◌}
use native.Mathlib.Omega.{arith}
use mathlib.Core.Path.{◌≡◌, sym, ap, ◌∙◌, subst}
use mathlib.Core.Bool.{Bool, true, false, ◌&&◌}
use lib.Bits.{bit_or}
use lib.Dec.{ltb}
use lib.Pow.{pow_pos}
use borrow.Author.Tests.{lt-ltb, le-ltb}
use Rattle.sets.specs.Below.{bit}
use Rattle.sets.specs.Bits.{bit_of}
use Rattle.sets.proofs.Bits.{bit_of_none}
use Rattle.graph.specs.ForProofs.{passes_near}
use Rattle.graph.proofs.Words.{bit_from, below_lt, below_first, below_rest}
use Rattle.graph.proofs.Records.near_word.Goals as goal

bit-small : (b : Bool) → bit b < 2
bit-small true = omega arith
bit-small false = omega arith

-- the word with one bit more, each k - 1 places down
bits : (w b k n : ℕ) (held : ℕ → ℕ) → 0 < k → w < 2 ^ n → n < 64 → b < 2 → b ≡ held (k - 1) → ((i : ℕ) → bit_of w i ≡ held (k + i))
    → (i : ℕ) → bit_of (bit_or (w * 2 ^ 1 % 2 ^ 64) b) i ≡ held (k - 1 + i)
bits w b k n held p h l small e rest zero = below_first n w b h l small ∙ e ∙ ap held (let q : k - 1 ≡ k - 1 + 0 = omega arith in q)
bits w b k n held p h l small e rest (suc i) = below_rest n w b h l small i ∙ rest i ∙ ap held (let q : k + i ≡ k - 1 + suc i = omega arith in q)

-- a turn of the loop, where bit b is that of the test g of the number before k
turn : (w b k n : ℕ) (g : ℕ → Bool) → 0 < k → k ≤ n → n ≤ 64 → w < 2 ^ (n - k) → b ≡ bit (g (k - 1)) → ((i : ℕ) → bit_of w i ≡ bit (ltb (k + i) n && g (k + i)))
    → (bit_or (w * 2 ^ 1 % 2 ^ 64) b < 2 ^ (n - (k - 1))) × ((i : ℕ) → bit_of (bit_or (w * 2 ^ 1 % 2 ^ 64) b) i ≡ bit (ltb (k - 1 + i) n && g (k - 1 + i)))
turn w b k n g p l m h e rest =
    let step : n - (k - 1) ≡ suc (n - k) = omega arith in
    let room : n - k < 64 = omega arith in
    let small : b < 2 = rw e (bit-small (g (k - 1))) in (
      subst (λ (x : ℕ). bit_or (w * 2 ^ 1 % 2 ^ 64) b < 2 ^ x) (sym step) (below_lt (n - k) w b h room small),
      bits w b k (n - k) (λ i. bit (ltb i n && g i)) p h room small
          (e ∙ sym (ap (λ (x : Bool). bit (x && g (k - 1))) (lt-ltb (k - 1) n (omega arith)))) rest,
    )

pub loop-k-init : goal.loop-k-init
loop-k-init c = (
  pow_pos (c.args.count - c.args.count),
  (λ i.
      bit_of_none i
      ∙ sym (ap (λ (b : Bool). bit (b && passes_near c.args.self.now.handsets.now c.args.self.now.edges.now c.args.self.now.h.limit (c.args.base + (c.args.count + i)))) (le-ltb (c.args.count + i) c.args.count (omega arith)))),
)

pub loop-k-preserved : goal.loop-k-preserved
loop-k-preserved c =
    turn c.loop-k.word c.from.result c.loop-k.k c.args.count (λ k. passes_near c.args.self.now.handsets.now c.args.self.now.edges.now c.args.self.now.h.limit (c.args.base + k))
    (omega arith) (omega arith) c.requires.0 c.loop-k.invariant.0
    (c.from.ensures ∙ bit_from _ ∙ ap bit c.is_near.ensures)
    c.loop-k.invariant.1
