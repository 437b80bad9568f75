use Rattle.std.specs.Prelude.{None, Some}
use Rattle.std.proofs.Common.{◌≡◌, ℕ, ◌+◌, ◌-◌, ◌%◌, ◌^◌, ◌<◌, Bool, true, false, cond, ◌&&◌, T, leb, List, sym, ap, ◌∙◌, subst, add-one, arith, le→leb, leb→le}
use Rattle.sets.specs.Below.{sum}
use Rattle.sets.proofs.Tests.{T_true, T-ext, and_make, and_left, and_right}
use Rattle.fields.specs.Fields.{coordinate_count, coordinate_of}
use Rattle.image.specs.Image.{distance_between}
use Rattle.near.specs.Near.{proximity_of, proximity_answer}
use Rattle.near.proofs.proximity_of.Invariants.{Left}
use Rattle.near.proofs.proximity_of.Goals as goal

left_none : (limit : ℕ) → Left 0 limit true limit
left_none limit = record { answer = sym (T_true (leb 0 limit) (le→leb 0 limit (omega arith))); rest = λ t. omega arith }

-- d is the square that the code has, x the definition's
left-more : (total limit room d x : ℕ) (fits : Bool) → Left total limit fits room → d ≡ x → d < 2 ^ 64 → room < 2 ^ 64
    → Left (x + total) limit (fits && leb d room) ((room + (2 ^ 64 - d)) % 2 ^ 64)
left-more total limit room d x fits l h hd hr = record {
  answer = T-ext (fits && leb d room) (leb (x + total) limit)
      (λ t. le→leb (x + total) limit (omega (arith, l.rest (and_left fits (leb d room) t), leb→le d room (and_right fits (leb d room) t))))
      (λ t. let f : T fits = subst T (sym l.answer) (le→leb total limit (omega (arith, leb→le (x + total) limit t))) in
      and_make fits (leb d room) f (le→leb d room (omega (arith, l.rest f, leb→le (x + total) limit t))));
  rest = λ t. omega (arith, l.rest (and_left fits (leb d room) t), leb→le d room (and_right fits (leb d room) t));
}

left_near : (a b : List ℕ) (limit room : ℕ) (fits : Bool) → Left (distance_between a b) limit fits room → fits ≡ true → Some (limit - room) ≡ proximity_of a b limit
unfolding proximity_of
left_near a b limit room fits l e =
    let all : room + distance_between a b ≡ limit = l.rest (subst T (sym e) tt) in
    ap Some (let q : limit - room ≡ distance_between a b = omega arith in q) ∙ ap (λ (t : Bool). cond t (Some (distance_between a b)) None) (sym e ∙ l.answer)

left_far : (a b : List ℕ) (limit room : ℕ) (fits : Bool) → Left (distance_between a b) limit fits room → fits ≡ false → None ≡ proximity_of a b limit
unfolding proximity_of
left_far a b limit room fits l e = ap (λ (t : Bool). cond t (Some (distance_between a b)) None) (sym e ∙ l.answer)

pub loop-i-init : goal.loop-i-init
unfolding sum
loop-i-init c = left_none _

pub loop-i-preserved : goal.loop-i-preserved
unfolding coordinate_of sum
loop-i-preserved c =
    rw (add-one c.loop-i.i)
    (left-more _ _ c.loop-i.room _ _ c.loop-i.fits c.loop-i.invariant c.squared_gap_at-square.ensures c.squared_gap_at-square.type_inv (omega arith))

pub returns-then-fits : goal.returns-then-fits
unfolding distance_between
returns-then-fits c =
    let e : c.loop-i.i ≡ coordinate_count = omega arith in
    ap proximity_answer (left_near _ _ _ _ _ (rw e at c.loop-i.invariant) c.if-fits.true)

pub returns-else-fits : goal.returns-else-fits
unfolding distance_between
returns-else-fits c =
    let e : c.loop-i.i ≡ coordinate_count = omega arith in
    ap proximity_answer (left_far _ _ _ _ _ (rw e at c.loop-i.invariant) c.if-fits.false)

pub overflow_sub-result : goal.overflow_sub-result
overflow_sub-result c = omega (arith, c.loop-i.invariant.rest (subst T (sym c.if-fits.true) tt))
