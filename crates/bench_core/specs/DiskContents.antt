-- A file in memory as contracts see it.
use Rattle.std.specs.Prelude.{ℕ, Bool, false, List}
use Rattle.std.specs.List.{slice_index_or}

-- the file as it reads, the bytes of the last sync, which places were touched since, and how many bytes there is room for
pub record DiskContents : Type 0 where
  pub file : List ℕ
  pub stable : List ℕ
  pub dirty : List Bool
  pub room : ℕ

-- whether a place was touched
abbrev pub is_dirty : List Bool → ℕ → Bool
is_dirty dirty place = slice_index_or dirty place false
