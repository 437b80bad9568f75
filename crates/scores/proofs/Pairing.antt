-- Laws of counting pairs of places.
--
--     pairs_product           pairs of places of which one passes f and the other g, where none passes both: the product of the two counts
--     pairs_half              all pairs of places: twice as many, and the places, make the square
--     pairs_few               all pairs of places of a list of at most 512, by its size
use Prim.Native.Nat.{ℕ, zero, suc, ◌+◌, ◌*◌, ◌≤◌, ◌<◌, min}
use native.Mathlib.Omega.{arith}
use native.Mathlib.Nat.{mul-add, add-mul}
use mathlib.Core.Path.{◌≡◌, refl, ap, ◌∙◌}
use mathlib.Core.Bool.{Bool, true, false, ◌&&◌, ◌||◌}
use mathlib.Core.List.{List}
use lib.Dec.{T}
use lib.ListN.{length}
use Rattle.sets.specs.Below.{count, sum, bit}
use Rattle.sets.proofs.Counting.{count_cong, count_false}
use Rattle.community.specs.Scores.{count_pairs, pairs}
use Rattle.scores.specs.Scored.{pairs_of}

-- one of the two places passes f and the other g
abbrev pub one_of_each : (ℕ → Bool) → (ℕ → Bool) → ℕ → ℕ → Bool
one_of_each f g i j = (f i && g j) || (f j && g i)

neither : (a b : Bool) → ((a && false) || (false && b)) ≡ false
neither true b = refl
neither false b = refl

second : (a b : Bool) → ((a && false) || (true && b)) ≡ b
second true b = refl
second false b = refl

first : (a b : Bool) → ((a && true) || (false && b)) ≡ a
first true b = refl
first false b = refl

-- what one more place adds: the places that pass g where it passes f, and those that pass f where it passes g
added : (n : ℕ) (f g : ℕ → Bool) (x y : Bool) → (T x → T y → ⊥)
    → count n (λ i. (f i && y) || (x && g i)) + count n f * count n g ≡ (bit x + count n f) * (bit y + count n g)
added n f g true true h = absurd (h tt tt)
added n f g true false h =
    let e : count n (λ i. (f i && false) || (true && g i)) ≡ count n g = count_cong n (λ i. (f i && false) || (true && g i)) g (λ i l. second (f i) (g i)) in
    simp (add-mul, mul-add) (omega arith)
added n f g false true h =
    let e : count n (λ i. (f i && true) || (false && g i)) ≡ count n f = count_cong n (λ i. (f i && true) || (false && g i)) f (λ i l. first (f i) (g i)) in
    simp (add-mul, mul-add) (omega arith)
added n f g false false h =
    let e : count n (λ i. (f i && false) || (false && g i)) ≡ 0 =
    count_cong n (λ i. (f i && false) || (false && g i)) (λ i. false) (λ i l. neither (f i) (g i)) ∙ count_false n in
    simp (add-mul, mul-add) (omega arith)

pub pairs_product : (n : ℕ) (f g : ℕ → Bool) → ((i : ℕ) → i < n → T (f i) → T (g i) → ⊥) → count_pairs n (one_of_each f g) ≡ count n f * count n g
unfolding count_pairs sum count
pairs_product zero f g h = refl
pairs_product (suc n) f g h =
    ap (λ (x : ℕ). count n (λ i. one_of_each f g i n) + x) (pairs_product n f g (λ i l. h i (omega arith))) ∙ added n f g (f n) (g n) (h n (omega arith))

all_pass : (n : ℕ) → count n (λ i. true) ≡ n
unfolding count
all_pass zero = refl
all_pass (suc n) = omega (arith, all_pass n)

pub pairs_half : (n : ℕ) → pairs_of n * 2 + n ≡ n * n
unfolding count_pairs sum
pairs_half zero = refl
pairs_half (suc n) =
    let e : sum n (λ j. count j (λ i. true)) * 2 + n ≡ n * n = pairs_half n in
    let q : suc n * suc n ≡ n * n + n + n + 1 = omega arith in
    omega (arith, all_pass n)

pub pairs_few : (l : List ℕ) (n : ℕ) → n ≡ length l → n ≤ 512 → pairs_of (min n 512) ≡ pairs l
unfolding pairs
pairs_few l n e few = ap pairs_of (let q : min n 512 ≡ length l = omega arith in q)
