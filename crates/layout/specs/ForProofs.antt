-- These definitions only serve the proofs; a caller need not believe them.
-- The two halves of the header, as two functions write them, and the length of the writer's draft.
--
--     counts_bytes n m ..     the first half: the counts, where the records of handsets and of edges begin, and the length
--     thresholds_bytes G ..   the second half: G, p, q, mu and the width of a handset's record
--     image_most              the length of the longest image
use Rattle.std.specs.Prelude.{ℕ, ◌+◌, ◌*◌, List, ◌++◌}
use Rattle.little_endian.specs.Bytes.{le_bytes}
use Rattle.fields.specs.Fields.{handset_bytes, edge_bytes, header_bytes}
use Rattle.limits.specs.Limits.{handsets_most, edges_most}

unfoldable pub counts_bytes : ℕ → ℕ → ℕ → ℕ → List ℕ
unfolding le_bytes
counts_bytes n m edges len = le_bytes 2 n ++ (le_bytes 2 m ++ (le_bytes 4 header_bytes ++ (le_bytes 4 edges ++ le_bytes 4 len)))

unfoldable pub thresholds_bytes : ℕ → ℕ → ℕ → ℕ → List ℕ
unfolding le_bytes
thresholds_bytes limit p q mu = le_bytes 8 limit ++ (le_bytes 2 p ++ (le_bytes 2 q ++ (le_bytes 2 mu ++ le_bytes 2 handset_bytes)))

abbrev pub image_most : ℕ
image_most = header_bytes + handset_bytes * handsets_most + edge_bytes * edges_most
