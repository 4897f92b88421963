-- A condition that fits a schema can be asked of a table over it.
use Rattle.std.proofs.Common.{◌≡◌, true, List, [], ◌∷◌, Option, Some, None, refl}
use Rattle.std.specs.List.{list_all}
use Rattle.std.proofs.lemmas.Bool.{false≢true, and_parts, and_from}
use Rattle.schema_json.specs.Columns.{Column, role_at}
use Rattle.schema_json.specs.declared.roles.Role.{Role}
use Rattle.schema_json.specs.declared.roles.Role.TheVariants as role
use Rattle.table_load.specs.Cells.{PublicView, Cells, hidden, numbers, texts, cells_at, HoldsRole, FitsSchema}
use Rattle.predicate_lang.specs.Trees.{Tree, all_rows, negation, both, either, compared, among, fits, is_of_role, has_operator, has_literals}
use Rattle.predicate_lang.specs.declared.trees.Literal.{Literal}
use Rattle.predicate_lang.specs.declared.trees.Literal.TheVariants as literal
use Rattle.set_index.specs.Asked.{is_kept, are_kept, fits_public}

-- a column with a role that takes a literal holds what the literal is
kept : (r : Option Role) (cells : Cells) (l : Literal) → ((found : Role) → r ≡ Some found → HoldsRole found cells) → is_of_role r l ≡ true →
    is_kept cells l ≡ true
kept None cells l holds is = absurd (false≢true is)
kept (Some found) cells l holds is = of found cells l (holds found refl) is
  where
    of : (found : Role) (cells : Cells) (l : Literal) → HoldsRole found cells → is_of_role (Some found) l ≡ true → is_kept cells l ≡ true
    of role.Number (numbers xs) (literal.Number n) holds is = refl
    of role.Number (numbers xs) (literal.Text t) holds is = is
    of role.Number hidden l holds is = absurd holds
    of role.Number (texts ts) l holds is = absurd holds
    of role.Text (texts ts) (literal.Number n) holds is = is
    of role.Text (texts ts) (literal.Text t) holds is = refl
    of role.Text hidden l holds is = absurd holds
    of role.Text (numbers xs) l holds is = absurd holds
    of role.Count cells l holds is = absurd (false≢true is)
    of role.Sum cells l holds is = absurd (false≢true is)
    of role.Max cells l holds is = absurd (false≢true is)
    of role.Min cells l holds is = absurd (false≢true is)

all_kept : (r : Option Role) (cells : Cells) (ls : List Literal) → ((found : Role) → r ≡ Some found → HoldsRole found cells) →
    list_all (is_of_role r) ls ≡ true → are_kept cells ls ≡ true
all_kept r cells [] holds are = refl
all_kept r cells (l ∷ ls) holds are =
    and_from (is_kept cells l) (are_kept cells ls) (kept r cells l holds (and_parts (is_of_role r l) (list_all (is_of_role r) ls) are).0)
    (all_kept r cells ls holds (and_parts (is_of_role r l) (list_all (is_of_role r) ls) are).1)

pub fits_over : (columns : List Column) (p : PublicView) (t : Tree) → FitsSchema columns p → fits columns t ≡ true → fits_public p t ≡ true
fits_over columns p all_rows over fit = refl
fits_over columns p (negation t) over fit = fits_over columns p t over fit
fits_over columns p (both t u) over fit =
    and_from (fits_public p t) (fits_public p u) (fits_over columns p t over (and_parts (fits columns t) (fits columns u) fit).0)
    (fits_over columns p u over (and_parts (fits columns t) (fits columns u) fit).1)
fits_over columns p (either t u) over fit =
    and_from (fits_public p t) (fits_public p u) (fits_over columns p t over (and_parts (fits columns t) (fits columns u) fit).0)
    (fits_over columns p u over (and_parts (fits columns t) (fits columns u) fit).1)
fits_over columns p (compared place o l) over fit =
    kept (role_at columns place) (cells_at p place) l (over place)
    (and_parts (has_operator (role_at columns place) o) (is_of_role (role_at columns place) l) fit).1
fits_over columns p (among place ls) over fit =
    all_kept (role_at columns place) (cells_at p place) ls (over place) (and_parts (has_literals ls) (list_all (is_of_role (role_at columns place)) ls) fit).1
