-- What is open, kept with the innermost last.
use Rattle.std.proofs.Common.{◌≡◌, ℕ, List, [], ◌∷◌, ◌++◌, length, map, take, get_or, ◌<◌, ◌-◌, ◌+◌, true, false, nat_lt, Option, None, Result, Box, Global, arith, refl, sym, ap, ◌∙◌, subst}
use Rattle.std.specs.Prelude.{reverse}
use Rattle.schema_json.specs.Columns.{Column}
use Rattle.predicate_lang.specs.Trees.{Tree}
use Rattle.std.proofs.lemmas.List.{map-append, reverse-append, length-map, length-reverse, take_all, take_more}
use Rattle.predicate_lang.specs.Machine.{Build, Stand, tree_at, Frame, a_not, a_bracket, has_room, is_under_not, without_nots, negated}
use Rattle.predicate_lang.specs.Building.{Puts, build_at, build_of, frame_of, frames_of, stand_of}
use Rattle.predicate_lang.specs.declared.building.Opened.{Opened}
use Rattle.predicate_lang.specs.declared.building.Spot.{Spot}
use Rattle.predicate_lang.specs.declared.building.Spot.TheVariants as spot
use Rattle.predicate_lang.specs.declared.building.State.{State}
use Rattle.predicate_lang.specs.declared.tokens.Token.{Token}
use Rattle.predicate_lang.specs.declared.trees.Literal.{Literal}
use Rattle.predicate_lang.specs.declared.trees.Pred.{Pred}
use Rattle.predicate_lang.specs.declared.trees.WhereFault.{WhereFault}
use Rattle.predicate_lang.specs.declared.building.Opened.TheVariants as opened

-- what was opened last comes first
pub frames_of_push : (os : List Opened) (o : Opened) → frames_of (os ++ o ∷ []) ≡ frame_of o ∷ frames_of os
frames_of_push os o = ap reverse (map-append frame_of os (o ∷ [])) ∙ reverse-append (map frame_of os) (frame_of o ∷ [])

pub length-frames_of : (os : List Opened) → length (frames_of os) ≡ length os
length-frames_of os = length-reverse (map frame_of os) ∙ length-map os frame_of

-- how many are open tells whether there is room
pub room_is : (os : List Opened) (n : ℕ) → n ≡ length os → nat_lt n 64 ≡ has_room (frames_of os)
room_is os n is = ap (λ m. nat_lt m 64) (is ∙ sym (length-frames_of os))

-- the innermost one and those around it
pub frames_of_last : (os : List Opened) (o : Opened) → 0 < length os →
    frames_of os ≡ frame_of (get_or os (length os - 1) o) ∷ frames_of (take (length os - 1) os)
frames_of_last os o some =
    let all : take (length os - 1 + 1) os ≡ os = take_all (length os - 1 + 1) os (omega arith) in
    let front : take (length os - 1 + 1) os ≡ take (length os - 1) os ++ get_or os (length os - 1) o ∷ [] = take_more os (length os - 1) o (omega arith) in
    ap frames_of (sym all ∙ front) ∙ frames_of_push (take (length os - 1) os) (get_or os (length os - 1) o)

-- a first frame that is a `not`
first_not : (f : Frame) (fs : List Frame) → is_under_not (f ∷ fs) ≡ true → f ≡ a_not
first_not a_not fs h = refl
first_not (a_bracket o a) fs h = absurd cc

some_opened : (os : List Opened) → is_under_not (frames_of os) ≡ true → 0 < length os
some_opened [] h = absurd cc
some_opened (o ∷ os) h = omega arith

-- a `not` right before the operand, and what is open around it
pub frames_under_not : (os : List Opened) → is_under_not (frames_of os) ≡ true → (0 < length os) × (frames_of os ≡ a_not ∷ frames_of (take (length os - 1) os))
frames_under_not os h =
    let some = some_opened os h in
    let last = frames_of_last os opened.Not some in (
      some,
      last ∙ ap (λ f. f ∷ frames_of (take (length os - 1) os))
          (first_not (frame_of (get_or os (length os - 1) opened.Not)) (frames_of (take (length os - 1) os)) (ap is_under_not (sym last) ∙ h)),
    )

-- if no `not` stands before the operand, none ends with it
pub without_nots_bracket : (fs : List Frame) → is_under_not fs ≡ false → without_nots fs ≡ fs
without_nots_bracket [] h = refl
without_nots_bracket (a_not ∷ fs) h = cc
without_nots_bracket (a_bracket o a ∷ fs) h = refl

-- and none negates it
pub negated_bracket : (fs : List Frame) (p : Tree) → is_under_not fs ≡ false → negated fs p ≡ p
negated_bracket [] p h = refl
negated_bracket (a_not ∷ fs) p h = cc
negated_bracket (a_bracket o a ∷ fs) p h = refl

-- a token is put where the state says that it stands
pub put_there : {X : Type 0} (columns : List Column) (s : State) (stand : Stand) (t : Token) (at : ℕ) (r : Result X WhereFault) (left : X → Build)
    → stand_of s.spot s.literals.items ≡ stand → Puts columns (build_at s stand) t at r left → Puts columns (build_of s) t at r left
put_there columns s stand t at r left is puts = subst (λ (x : Stand). Puts columns (build_at s x) t at r left) (sym is) puts

-- without a whole part there is no tree
pub no_tree : (fs : List Frame) (ors : Option Tree) (at : Spot) (ls : List Literal) → ((p : Box Pred Global) → at ≡ spot.Whole p → ⊥)
    → tree_at fs ors (stand_of at ls) ≡ None
no_tree [] ors spot.Operand ls open_end = refl
no_tree [] ors (spot.Name c) ls open_end = refl
no_tree [] ors (spot.Operator c o) ls open_end = refl
no_tree [] ors (spot.In c) ls open_end = refl
no_tree [] ors (spot.Comma c) ls open_end = refl
no_tree [] ors (spot.Literal c) ls open_end = refl
no_tree [] ors (spot.Whole p) ls open_end = absurd (open_end p refl)
no_tree (f ∷ fs) ors at ls open_end = refl
