-- What the reader finds in the image of a site's numbers. The header has fixed widths, so what stands from a field's place on is the field's bytes by computing;
-- the records are what stands after them. Questions 3, 5 and 6 of the writer make every number fit its field, so that 1 to 6 of the reader get a yes.
--
--     length_image                  the header, and the bytes of each coordinate and of each end
--     image_below                   every number of the image is a byte
--     Asked x coords ends           questions 3, 5 and 6 of the writer got a yes
--     asked_length, header_read     then the image is as long as its header says, and its header is read back
--     handsets_read, edges_read     the records are the tables in bytes
--     header_accepted               questions 1 to 6 of the reader get a yes
--     open_image                    and what is left to ask is 7 to 10
use Prim.Native.Nat.{ℕ, ◌+◌, ◌*◌, ◌^◌, ◌≤◌, ◌<◌}
use native.Mathlib.Omega.{arith}
use mathlib.Core.Path.{◌≡◌, refl, sym, ap, ap₂, ◌∙◌, subst}
use mathlib.Core.List.{List, ◌++◌, map}
use lib.Dec.{T, eqb, le→leb, eqb→eq}
use lib.IntN.{ℤ}
use lib.ListN.{length, take, drop, length-append, length-map}
use lib.Seq.{take_at, take_all, drop_at, drop-drop}
use borrow.Author.Tests.{le-leb}
use Rattle.sets.proofs.Tests.{and_left, and_right, eqb_of}
use Rattle.little_endian.specs.Bytes.{number, le_bytes, Below}
use Rattle.little_endian.proofs.Writing.{le_bytes_below, append_below, table_bytes_below, number_at, length_table_bytes}
use Rattle.fields.specs.Fields.{coordinate_bytes, coordinate_count, handset_bytes, end_bytes, end_count, edge_bytes, header_bytes}
use Rattle.limits.specs.Limits.{counts_fit, thresholds_fit}
use Rattle.image.specs.Image.{header_of, handset_records, edge_records}
use Rattle.image.specs.Questions.{tables_fit, ask_records, open_of, HeaderAccepted}
use Rattle.image.specs.declared.Header.{Header}
use Rattle.image.proofs.Acceptance.{fits, go_on_header}
use Rattle.layout.specs.Layout.{header_for, header_bytes_of, word32, handset_table, edge_table, image_of, lengths_fit}
use Rattle.layout.specs.declared.Parameters.{Parameters}

-- ---- the image, whatever its numbers

module _ (x : Parameters) (coords : List ℤ) (ends : List ℕ) where
  abbrev image : List ℕ
  image = image_of x coords ends

  abbrev h : Header
  h = header_for x

  length_image : length image ≡ header_bytes + (coordinate_bytes * length coords + end_bytes * length ends)
  unfolding image_of header_bytes_of le_bytes
  length_image =
      omega (arith, length-append (handset_table coords) (edge_table ends), length_table_bytes coordinate_bytes (map word32 coords), length_table_bytes end_bytes ends, length-map coords word32)

  after_header : drop header_bytes image ≡ handset_table coords ++ edge_table ends
  unfolding image_of header_bytes_of le_bytes
  after_header = refl

  pub image_below : Below 256 image
  unfolding image_of header_bytes_of
  image_below =
      let l9 : List ℕ = le_bytes 2 h.width in
      let l8 : List ℕ = le_bytes 2 h.mu ++ l9 in
      let l7 : List ℕ = le_bytes 2 h.q ++ l8 in
      let l6 : List ℕ = le_bytes 2 h.p ++ l7 in
      let l5 : List ℕ = le_bytes 8 h.limit ++ l6 in
      let l4 : List ℕ = le_bytes 4 h.len ++ l5 in
      let l3 : List ℕ = le_bytes 4 h.edges ++ l4 in
      let l2 : List ℕ = le_bytes 4 h.handsets ++ l3 in
      let l1 : List ℕ = le_bytes 2 h.m ++ l2 in
      append_below 256 (le_bytes 2 h.n ++ l1) (handset_table coords ++ edge_table ends)
      (put 2 h.n l1 (put 2 h.m l2 (put 4 h.handsets l3 (put 4 h.edges l4 (put 4 h.len l5 (put 8 h.limit l6 (put 2 h.p l7 (put 2 h.q l8
      (put 2 h.mu l9 (le_bytes_below 2 h.width))))))))))
      (append_below 256 (handset_table coords) (edge_table ends) (table_bytes_below coordinate_bytes (map word32 coords)) (table_bytes_below end_bytes ends))
    where
      put : (w v : ℕ) (rest : List ℕ) → Below 256 rest → Below 256 (le_bytes w v ++ rest)
      put w v rest b = append_below 256 (le_bytes w v) rest (le_bytes_below w v) b

  -- a field whose bytes begin what stands from its place on
  field : (w v at : ℕ) (rest : List ℕ) → v < 256 ^ w → at + w ≤ header_bytes → drop at image ≡ le_bytes w v ++ rest → number w image at ≡ v
  field w v at rest small l e = number_at w v image at rest small (omega (arith, length_image)) e

-- ---- an image whose numbers fit

pub record Asked (x : Parameters) (coords : List ℤ) (ends : List ℕ) : Type 0 where
  pub q3 : T (counts_fit x.n x.m)
  pub q5 : T (thresholds_fit x.limit x.p x.q x.mu)
  pub q6 : T (lengths_fit x (length coords) (length ends))

pub tables_fit_lem : (x : Parameters) → T (tables_fit (header_for x))
tables_fit_lem x =
    let a : ℕ = header_bytes + handset_bytes * x.n in
    let b : ℕ = header_bytes + handset_bytes * x.n + edge_bytes * x.m in
    rw (
      tables_fit,
      le-leb header_bytes a (omega arith),
      le-leb a b (omega arith),
      le-leb b b (omega arith),
      le-leb a a (omega arith),
    ) tt

module _ (x : Parameters) (coords : List ℤ) (ends : List ℕ) (ok : Asked x coords ends) where
  abbrev made : Header
  made = header_for x

  pub coords_length : length coords ≡ coordinate_count * x.n
  coords_length = eqb→eq (length coords) (coordinate_count * x.n) (and_left (eqb (length coords) (coordinate_count * x.n)) (eqb (length ends) (end_count * x.m)) ok.q6)

  pub ends_length : length ends ≡ end_count * x.m
  ends_length = eqb→eq (length ends) (end_count * x.m) (and_right (eqb (length coords) (coordinate_count * x.n)) (eqb (length ends) (end_count * x.m)) ok.q6)

  pub asked_length : length (image_of x coords ends) ≡ made.len
  asked_length = omega (arith, length_image x coords ends, coords_length, ends_length)

  pub header_read : header_of (image_of x coords ends) ≡ made
  unfolding image_of header_bytes_of le_bytes header_of
  header_read =
      let f = fits made ok.q3 ok.q5 (tables_fit_lem x) in
      let read = field x coords ends in
      λ i. record {
        n = read 2 x.n 0 _ (omega (arith, f.n_limit)) (omega arith) refl i;
        m = read 2 x.m 2 _ (omega (arith, f.m_limit)) (omega arith) refl i;
        handsets = read 4 made.handsets 4 _ (omega arith) (omega arith) refl i;
        edges = read 4 made.edges 8 _ (omega (arith, f.n_limit)) (omega arith) refl i;
        len = read 4 made.len 12 _ (omega (arith, f.n_limit, f.m_limit)) (omega arith) refl i;
        limit = read 8 x.limit 16 _ (omega (arith, f.square_limit)) (omega arith) refl i;
        p = read 2 x.p 24 _ (omega (arith, f.p_q, f.q_limit)) (omega arith) refl i;
        q = read 2 x.q 26 _ (omega (arith, f.q_limit)) (omega arith) refl i;
        mu = read 2 x.mu 28 _ (omega (arith, f.mu_limit)) (omega arith) refl i;
        width = read 2 made.width 30 _ (omega arith) (omega arith) refl i;
      }

  handsets_long : length (handset_table coords) ≡ handset_bytes * x.n
  handsets_long = omega (arith, length_table_bytes coordinate_bytes (map word32 coords), length-map coords word32, coords_length)

  edges_long : length (edge_table ends) ≡ edge_bytes * x.m
  edges_long = omega (arith, length_table_bytes end_bytes ends, ends_length)

  pub handsets_read : handset_records (image_of x coords ends) ≡ handset_table coords
  unfolding handset_records
  handsets_read =
      ap (λ (g : Header). take (handset_bytes * g.n) (drop g.handsets (image_of x coords ends))) header_read
      ∙ ap (take (handset_bytes * x.n)) (after_header x coords ends)
      ∙ take_at (handset_table coords) (edge_table ends) (handset_bytes * x.n) handsets_long

  pub edges_read : edge_records (image_of x coords ends) ≡ edge_table ends
  unfolding edge_records
  edges_read =
      ap (λ (g : Header). take (edge_bytes * g.m) (drop g.edges (image_of x coords ends))) header_read
      ∙ ap (take (edge_bytes * x.m))
      (sym (drop-drop (handset_bytes * x.n) header_bytes (image_of x coords ends)) ∙ ap (drop (handset_bytes * x.n)) (after_header x coords ends)
      ∙ drop_at (handset_table coords) (edge_table ends) (handset_bytes * x.n) handsets_long)
      ∙ take_all (edge_bytes * x.m) (edge_table ends) (omega (arith, edges_long))

  pub header_accepted : HeaderAccepted (image_of x coords ends)
  header_accepted =
      let image : List ℕ = image_of x coords ends in
      record {
        q1 = le→leb header_bytes (length image) (omega (arith, asked_length));
        q2 = eqb_of (header_of image).len (length image) (ap (λ (g : Header). g.len) header_read ∙ sym asked_length);
        q3 = subst (λ (g : Header). T (counts_fit g.n g.m)) (sym header_read) ok.q3;
        q4 = eqb_of (header_of image).width handset_bytes (ap (λ (g : Header). g.width) header_read);
        q5 = subst (λ (g : Header). T (thresholds_fit g.limit g.p g.q g.mu)) (sym header_read) ok.q5;
        q6 = subst (λ (g : Header). T (tables_fit g)) (sym header_read) (tables_fit_lem x);
      }

  pub open_image : open_of (image_of x coords ends) ≡ ask_records (handset_table coords) (edge_table ends) made
  unfolding open_of
  open_image =
      go_on_header (image_of x coords ends) _ header_accepted
      ∙ ap₂ (λ (a b : List ℕ). ask_records a b (header_of (image_of x coords ends))) handsets_read edges_read
      ∙ ap (ask_records (handset_table coords) (edge_table ends)) header_read
