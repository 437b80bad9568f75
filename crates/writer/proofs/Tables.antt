-- The numbers of a site's two tables in the records of an image. Number j of the one table is coordinate j % coordinate_count of handset j / coordinate_count,
-- and number j of the other an end of edge j / end_count (layout/proofs/Numbers).
--
--     every_entry                              what holds of each number of a list, and of what stands for one past its end, holds of all that is read
--     edges_below                              every number of the edge records is a byte
--     EndTable records m ends                  the ends of m edge records stand in a table
--     ends_low, ends_are                       each is a number of 16 bits, and the records are the table in bytes
--     handsets_are, edges_are                  the records of an image that holds two tables are the tables in bytes
--     asked_by                                 tables of a header's counts pass the writer's 3, 5 and 6 where the header's counts and thresholds fit
--     image_holds                              the image of two tables holds them
--     tabulated k f                            the list of f 0 to f (k - 1)
--     ends_in records m, ends_in_lem                the table of the ends of m edge records
--     coordinates_by n f                        the table of coordinates f v i of n handsets; coordinates_length, coordinate_at: its length, and what stands in it
--     tables_of                                the tables that an image has
use Prim.Native.Nat.{ℕ, zero, suc, ◌+◌, ◌*◌, ◌/◌, ◌%◌, ◌<◌}
use native.Mathlib.Omega.{arith}
use mathlib.Core.Path.{◌≡◌, refl, sym, ap, ap₂, ◌∙◌, subst}
use mathlib.Core.Logic.{◌⊎◌, inl, inr, ⊎_elim}
use mathlib.Core.List.{List, [], ◌∷◌, map}
use lib.Dec.{T, eqb}
use lib.IntN.{ℤ, pos}
use lib.Signed.{mag}
use lib.ListN.{length, get_or, drop, length-map}
use Rattle.sets.proofs.Tests.{three, and_make, eqb_of}
use Rattle.little_endian.specs.Bytes.{number, Below}
use Rattle.little_endian.proofs.Writing.{take_below, drop_below, number_below, table_bytes_is}
use Rattle.fields.specs.Fields.{coordinate_bytes, coordinate_count, end_bytes, end_count, edge_bytes}
use Rattle.limits.specs.Limits.{counts_fit, thresholds_fit}
use Rattle.image.specs.Image.{header_of, handset_count, edge_count, handset_records, edge_records, end_a, end_b}
use Rattle.image.specs.Signed.{signed32, signed_coordinate}
use Rattle.image.specs.Questions.{HeaderAccepted}
use Rattle.image.specs.declared.Header.{Header}
use Rattle.image.proofs.Acceptance.{handsets_length, edges_length}
use Rattle.image.proofs.Signed.{handsets_below, coordinate_small}
use Rattle.layout.specs.Layout.{word32, handset_table, edge_table, image_of, Signed32}
use Rattle.layout.specs.declared.Parameters.{Parameters}
use Rattle.layout.proofs.Numbers.{signed_word, word_signed, coordinate_place, first_place, second_place, coordinate_written, end_written}
use Rattle.layout.proofs.Storing.{get_or_word}
use Rattle.layout.proofs.Reading.{Asked, coords_length, ends_length, header_read, handsets_read, edges_read}
use Rattle.writer.specs.Holds.{parameters_of, Holds}

pub every_entry : {A : Type 0} (P : A → Type 0) (l : List A) (d : A) → P d → ((j : ℕ) → j < length l → P (get_or l j d)) → (j : ℕ) → P (get_or l j d)
every_entry P [] d p f j = p
every_entry P (a ∷ l) d p f zero = f 0 (omega arith)
every_entry P (a ∷ l) d p f (suc j) = every_entry P l d p (λ i h. f (suc i) (omega arith)) j

-- ---- the ends of edge records

pub edges_below : (s : List ℕ) → Below 256 s → Below 256 (edge_records s)
unfolding edge_records
edges_below s small = take_below 256 (edge_bytes * edge_count s) (drop (header_of s).edges s) (drop_below 256 (header_of s).edges s small)

pub record EndTable (records : List ℕ) (m : ℕ) (ends : List ℕ) : Type 0 where
  pub end_count_lem : length ends ≡ end_count * m
  pub first_ends : (k : ℕ) → k < m → end_a records k ≡ get_or ends (end_count * k) 0
  pub second_ends : (k : ℕ) → k < m → end_b records k ≡ get_or ends (end_count * k + 1) 0

which_end : (j : ℕ) → (j ≡ end_count * (j / end_count)) ⊎ (j ≡ end_count * (j / end_count) + 1)
which_end j =
    ⊎_elim (λ e. inr (omega arith)) (λ o. ⊎_elim (λ l. inl (omega arith)) (λ g. absurd (omega arith)) o) (three (j % end_count) 1)

module _ (records : List ℕ) (m : ℕ) (ends : List ℕ) (small : Below 256 records) (held : EndTable records m ends) where
  end_is : (j : ℕ) → j < length ends → number end_bytes records (end_bytes * j) ≡ get_or ends j 0
  end_is j h =
      let k : ℕ = j / end_count in
      let edge : k < m = omega (arith, held.end_count_lem) in
      let at : ℕ → ℕ = λ y. number end_bytes records (end_bytes * y) in
      ⊎_elim
      (λ e. ap at e ∙ sym (first_place records k) ∙ held.first_ends k edge ∙ ap (λ (y : ℕ). get_or ends y 0) (sym e))
      (λ e. ap at e ∙ sym (second_place records k) ∙ held.second_ends k edge ∙ ap (λ (y : ℕ). get_or ends y 0) (sym e))
      (which_end j)

  pub ends_low : Below 65536 ends
  ends_low = every_entry (λ y. y < 65536) ends 0 (omega arith) (λ j h. omega (arith, end_is j h, number_below end_bytes records (end_bytes * j) small))

  pub ends_are : length records ≡ edge_bytes * m → records ≡ edge_table ends
  ends_are long = sym (table_bytes_is end_bytes ends records small (omega (arith, held.end_count_lem)) end_is)

-- ---- the records of an image

module _ (s : List ℕ) (x : Parameters) (coords : List ℤ) (ends : List ℕ) (ok : HeaderAccepted s) (small : Below 256 s)
    (held : Holds s x coords ends) where
  n_is : handset_count s ≡ x.n
  n_is = ap (λ (y : Parameters). y.n) held.parameters

  m_is : edge_count s ≡ x.m
  m_is = ap (λ (y : Parameters). y.m) held.parameters

  coordinate_is : (j : ℕ) → j < length coords → number coordinate_bytes (handset_records s) (coordinate_bytes * j) ≡ word32 (get_or coords j (pos 0))
  unfolding signed_coordinate
  coordinate_is j h =
      let v : ℕ = j / coordinate_count in
      let i : ℕ = j % coordinate_count in
      let at : ℕ → ℕ = λ y. number coordinate_bytes (handset_records s) (coordinate_bytes * y) in
      let place : j ≡ coordinate_count * v + i = omega arith in
      sym (word_signed (at j) (number_below coordinate_bytes (handset_records s) (coordinate_bytes * j) (handsets_below s small)))
      ∙ ap (λ (y : ℕ). word32 (signed32 y)) (ap at place ∙ sym (coordinate_place (handset_records s) v i (omega arith)))
      ∙ ap word32 (held.coordinates v i (omega (arith, held.coordinate_count_lem)) (omega arith) ∙ ap (λ (y : ℕ). get_or coords y (pos 0)) (sym place))

  pub handsets_are : handset_records s ≡ handset_table coords
  handsets_are =
      sym (table_bytes_is coordinate_bytes (map word32 coords) (handset_records s) (handsets_below s small)
      (omega (arith, handsets_length s ok, n_is, held.coordinate_count_lem, length-map coords word32))
      (λ j h. coordinate_is j (omega (arith, length-map coords word32)) ∙ get_or_word coords j))

  pub edges_are : edge_records s ≡ edge_table ends
  edges_are =
      ends_are (edge_records s) x.m ends (edges_below s small)
      (record { end_count_lem = held.end_count_lem; first_ends = held.first_ends; second_ends = held.second_ends }) (omega (arith, edges_length s ok, m_is))

-- ---- the image of two tables

pub asked_by : (h : Header) (x : Parameters) (coords : List ℤ) (ends : List ℕ) → parameters_of h ≡ x → T (counts_fit h.n h.m)
    → T (thresholds_fit h.limit h.p h.q h.mu) → length coords ≡ coordinate_count * x.n → length ends ≡ end_count * x.m → Asked x coords ends
asked_by h x coords ends e q3 q5 a b = record {
  q3 = subst (λ (y : Parameters). T (counts_fit y.n y.m)) e q3;
  q5 = subst (λ (y : Parameters). T (thresholds_fit y.limit y.p y.q y.mu)) e q5;
  q6 = and_make (eqb (length coords) (coordinate_count * x.n)) (eqb (length ends) (end_count * x.m))
      (eqb_of (length coords) (coordinate_count * x.n) a) (eqb_of (length ends) (end_count * x.m) b);
}

module _ (x : Parameters) (coords : List ℤ) (ends : List ℕ) (signed : Signed32 coords) (low : Below 65536 ends) (ok : Asked x coords ends) where
  abbrev image : List ℕ
  image = image_of x coords ends

  coordinate_read : (j : ℕ) → j < length coords
      → signed32 (number coordinate_bytes (handset_records image) (coordinate_bytes * j)) ≡ get_or coords j (pos 0)
  coordinate_read j h =
      ap signed32
      (ap (λ (records : List ℕ). number coordinate_bytes records (coordinate_bytes * j)) (handsets_read x coords ends ok) ∙ coordinate_written coords signed j h)
      ∙ signed_word (get_or coords j (pos 0)) (signed j)

  end_read : (j : ℕ) → j < length ends → number end_bytes (edge_records image) (end_bytes * j) ≡ get_or ends j 0
  end_read j h = ap (λ (records : List ℕ). number end_bytes records (end_bytes * j)) (edges_read x coords ends ok) ∙ end_written ends low j h

  pub image_holds : Holds image x coords ends
  unfolding signed_coordinate
  image_holds = record {
    parameters = ap parameters_of (header_read x coords ends ok);
    coordinate_count_lem = coords_length x coords ends ok;
    end_count_lem = ends_length x coords ends ok;
    coordinates = λ v i h l.
        ap signed32 (coordinate_place (handset_records image) v i l)
        ∙ coordinate_read (coordinate_count * v + i) (omega (arith, coords_length x coords ends ok));
    first_ends = λ k h. first_place (edge_records image) k ∙ end_read (end_count * k) (omega (arith, ends_length x coords ends ok));
    second_ends = λ k h. second_place (edge_records image) k ∙ end_read (end_count * k + 1) (omega (arith, ends_length x coords ends ok));
  }

-- ---- the tables of an image

abbrev tabulated : {A : Type 0} → ℕ → (ℕ → A) → List A
tabulated zero f = []
tabulated (suc k) f = f 0 ∷ tabulated k (λ i. f (suc i))

length_tabulated : {A : Type 0} (k : ℕ) (f : ℕ → A) → length (tabulated k f) ≡ k
length_tabulated zero f = refl
length_tabulated (suc k) f = ap suc (length_tabulated k (λ i. f (suc i)))

get_or_tabulated : {A : Type 0} (k : ℕ) (f : ℕ → A) (i : ℕ) (d : A) → i < k → get_or (tabulated k f) i d ≡ f i
get_or_tabulated zero f i d h = absurd (omega arith)
get_or_tabulated (suc k) f zero d h = refl
get_or_tabulated (suc k) f (suc i) d h = get_or_tabulated k (λ j. f (suc j)) i d (omega arith)

abbrev pub ends_in : List ℕ → ℕ → List ℕ
ends_in records m = tabulated (end_count * m) (λ j. number end_bytes records (end_bytes * j))

pub ends_in_lem : (records : List ℕ) (m : ℕ) → EndTable records m (ends_in records m)
ends_in_lem records m = record {
  end_count_lem = length_tabulated (end_count * m) _;
  first_ends = λ k h. first_place records k ∙ at (end_count * k) (omega arith);
  second_ends = λ k h. second_place records k ∙ at (end_count * k + 1) (omega arith);
}
  where
    at : (j : ℕ) → j < end_count * m → number end_bytes records (end_bytes * j) ≡ get_or (ends_in records m) j 0
    at j h = sym (get_or_tabulated (end_count * m) (λ i. number end_bytes records (end_bytes * i)) j 0 h)

abbrev pub coordinates_by : ℕ → (ℕ → ℕ → ℤ) → List ℤ
coordinates_by n f = tabulated (coordinate_count * n) (λ j. f (j / coordinate_count) (j % coordinate_count))

module _ (n : ℕ) (f : ℕ → ℕ → ℤ) where
  pub coordinates_length : length (coordinates_by n f) ≡ coordinate_count * n
  coordinates_length = length_tabulated (coordinate_count * n) _

  pub coordinate_at : (v i : ℕ) → v < n → i < coordinate_count → get_or (coordinates_by n f) (coordinate_count * v + i) (pos 0) ≡ f v i
  coordinate_at v i h l =
      let j : ℕ = coordinate_count * v + i in
      let handset : j / coordinate_count ≡ v = omega arith in
      let coordinate : j % coordinate_count ≡ i = omega arith in
      get_or_tabulated (coordinate_count * n) (λ k. f (k / coordinate_count) (k % coordinate_count)) j (pos 0) (omega arith) ∙ ap₂ f handset coordinate

module _ (s : List ℕ) (small : Below 256 s) where
  abbrev x : Parameters
  x = parameters_of (header_of s)

  abbrev coords : List ℤ
  coords = coordinates_by x.n (signed_coordinate s)

  abbrev ends : List ℕ
  ends = ends_in (edge_records s) x.m

  coords_small : Signed32 coords
  coords_small =
      every_entry (λ z. mag z < 2147483648) coords (pos 0) (omega arith)
      (λ j h.
      subst (λ (z : ℤ). mag z < 2147483648)
      (sym (get_or_tabulated (coordinate_count * x.n) _ j (pos 0) (omega (arith, coordinates_length x.n (signed_coordinate s)))))
      (coordinate_small s small (j / coordinate_count) (j % coordinate_count)))

  pub tables_of : (coords : List ℤ) × (ends : List ℕ) × Signed32 coords × Below 65536 ends × Holds s x coords ends
  tables_of =
      let table : EndTable (edge_records s) x.m ends = ends_in_lem (edge_records s) x.m in (
        coords,
        ends,
        coords_small,
        ends_low (edge_records s) x.m ends (edges_below s small) table,
        record {
          parameters = refl;
          coordinate_count_lem = coordinates_length x.n (signed_coordinate s);
          end_count_lem = table.end_count_lem;
          coordinates = λ v i h l. sym (coordinate_at x.n (signed_coordinate s) v i h l);
          first_ends = table.first_ends;
          second_ends = table.second_ends;
        },
      )
