-- What is written as a formed statement is read as it.
use Rattle.std.proofs.Common.{◌≡◌, ◌∙◌, sym, ap, refl, ◌<◌, ℕ, true, false, cond, ◌||◌, List, [], ◌∷◌, ◌++◌, length, arith, Option, Some, None, append_assoc}
use Rattle.std.specs.List.{AllByRecursion, list_any}
use Rattle.std.specs.Option.{option_map_or}
use Rattle.std.specs.Str.{bytes_eq}
use Rattle.std.proofs.lemmas.Slice.Eq.{bytes_eq-Decides}
use Rattle.qasm_forms.specs.declared.lexemes.Stop.TheVariants.{To}
use Rattle.qasm_lex.specs.Lexemes.{Lexeme, word, whole, arrow, mark}
use Rattle.qasm_forms.specs.Statements.{is_mark}
use Rattle.qasm_forms.specs.Statements.{Argument, measure, call, IsArgument, AreArguments, AreAngles, IsAngle, written_argument, written_index, written_angles, written_each, listed, is_name}
use Rattle.qasm_forms.specs.Private.Fronts.{and_then, mark_at, deeper}
use Rattle.qasm_forms.specs.Cutting.{is_nothing, before_stop, has_stop, after_stop}
use Rattle.qasm_forms.specs.Private.Parsing.{gather, argument_at, indexed, arguments_at, scan, lead_angle, next_angle, filled, angles_at, measure_at, call_from, call_at}
use Rattle.qasm_forms.proofs.Nesting.{IsPart, part_rest}
use Rattle.qasm_forms.proofs.Listed.{split}
use Rattle.std.proofs.lemmas.Bool.{or_parts, cond-false, false_from_ne_true}

argument_by : (name : List ℕ) (index : Option (List ℕ)) → is_name name ≡ true → argument_at (word name ∷ written_index index) ≡ Some (record { name = name; index = index })
argument_by name None e = ap (λ x. and_then {A = List ℕ × List Lexeme} (cond x (Some (name, [])) None) (λ n. indexed n.0 n.1)) e
argument_by name (Some d) e = ap (λ x. and_then {A = List ℕ × List Lexeme} (cond x (Some (name, mark 91 ∷ whole d ∷ mark 93 ∷ [])) None) (λ n. indexed n.0 n.1)) e

pub argument_written : (a : Argument) → IsArgument a → argument_at (written_argument a) ≡ Some a
argument_written a e = argument_by a.name a.index e

split_next_by : (name : List ℕ) (index : Option (List ℕ)) (rest : List Lexeme) → split ((word name ∷ written_index index) ++ (mark 44 ∷ rest)) ≡ (word name ∷ written_index index) ∷ split rest
split_next_by name None rest = refl
split_next_by name (Some d) rest = refl

split_last_by : (name : List ℕ) (index : Option (List ℕ)) → split (word name ∷ written_index index) ≡ (word name ∷ written_index index) ∷ []
split_last_by name None = refl
split_last_by name (Some d) = refl

split_written : (a : Argument) (all : List Argument) → split (listed (written_each (a ∷ all))) ≡ written_each (a ∷ all)
split_written a [] = split_last_by a.name a.index
split_written a (b ∷ all) = split_next_by a.name a.index (listed (written_each (b ∷ all))) ∙ ap (λ r. written_argument a ∷ r) (split_written b all)

gather_written : (all : List Argument) → AllByRecursion IsArgument all → gather (written_each all) ≡ Some all
gather_written [] h = refl
gather_written (a ∷ all) h =
    ap (λ x. and_then x (λ a. and_then (gather (written_each all)) (λ more. Some (a ∷ more)))) (argument_written a h.0)
    ∙ ap (λ x. and_then x (λ more. Some (a ∷ more))) (gather_written all h.1)

pub arguments_written : (all : List Argument) → AreArguments all → arguments_at (listed (written_each all)) ≡ Some all
arguments_written [] h = absurd (let q = h.some in omega arith)
arguments_written (a ∷ all) h = ap gather (split_written a all) ∙ gather_written (a ∷ all) h.each

part_of : (a : List Lexeme) → IsAngle a → IsPart 0 a
part_of a p = record {
  closed = let q = p.balanced in omega arith;
  nested = λ before after h. let q = p.nested before after h in omega arith;
  inside = λ before after h. let q = p.inside before after h in omega arith;
}

end_depth : (depth : ℕ) → IsPart depth [] → depth ≡ 0
end_depth depth p = let q = p.closed in omega arith

scan_last : (depth : ℕ) (a r : List Lexeme) → IsPart depth a → scan depth (a ++ (mark 41 ∷ r)) ≡ Some (a ∷ [], r)
scan_last depth [] r p = ap (λ d. scan d (mark 41 ∷ r)) (end_depth depth p)
scan_last depth (l ∷ a) r p =
    let t = part_rest depth l a p in
    ap (λ x. cond x (cond (is_mark 41 l) (Some ([] ∷ [], a ++ (mark 41 ∷ r))) (next_angle [] (scan 0 (a ++ (mark 41 ∷ r))))) (lead_angle l (scan (deeper depth l) (a ++ (mark 41 ∷ r))))) t.0
    ∙ ap (lead_angle l) (scan_last (deeper depth l) a r t.1)

lead_next : (l : Lexeme) (a : List Lexeme) (x : Option (List (List Lexeme) × List Lexeme)) → lead_angle l (next_angle a x) ≡ next_angle (l ∷ a) x
lead_next l a None = refl
lead_next l a (Some p) = refl

scan_next : (depth : ℕ) (a r : List Lexeme) → IsPart depth a → scan depth (a ++ (mark 44 ∷ r)) ≡ next_angle a (scan 0 r)
scan_next depth [] r p = ap (λ d. scan d (mark 44 ∷ r)) (end_depth depth p)
scan_next depth (l ∷ a) r p =
    let t = part_rest depth l a p in
    ap (λ x. cond x (cond (is_mark 41 l) (Some ([] ∷ [], a ++ (mark 44 ∷ r))) (next_angle [] (scan 0 (a ++ (mark 44 ∷ r))))) (lead_angle l (scan (deeper depth l) (a ++ (mark 44 ∷ r))))) t.0
    ∙ ap (lead_angle l) (scan_next (deeper depth l) a r t.1) ∙ lead_next l a (scan 0 r)

scan_written : (a : List Lexeme) (all : List (List Lexeme)) (r : List Lexeme) → AllByRecursion IsAngle (a ∷ all) → scan 0 (listed (a ∷ all) ++ (mark 41 ∷ r)) ≡ Some (a ∷ all, r)
scan_written a [] r h = scan_last 0 a r (part_of a h.0)
scan_written a (b ∷ all) r h =
    ap (scan 0) (append_assoc a (mark 44 ∷ listed (b ∷ all)) (mark 41 ∷ r)) ∙ scan_next 0 a (listed (b ∷ all) ++ (mark 41 ∷ r)) (part_of a h.0) ∙ ap (next_angle a) (scan_written b all r h.1)

some_angle : (a : List Lexeme) → 0 < length a → is_nothing a ≡ false
some_angle [] h = absurd (omega arith)
some_angle (l ∷ a) h = refl

all_some : (all : List (List Lexeme)) → AllByRecursion IsAngle all → list_any is_nothing all ≡ false
all_some [] h = refl
all_some (a ∷ all) h = ap (λ b. b || list_any is_nothing all) (some_angle a h.0.some) ∙ all_some all h.1

no_mark : (b : ℕ) (l : Lexeme) (ls : List Lexeme) → is_mark b l ≡ false → mark_at b (l ∷ ls) ≡ None
no_mark b (mark c) ls e = ap (λ x. cond x (Some ls) None) e
no_mark b _ ls e = refl

-- an angle doesn't begin with a closing parenthesis
begins : (a : List Lexeme) (ls : List Lexeme) → IsAngle a → mark_at 41 (a ++ ls) ≡ None
begins [] ls h = absurd (let q = h.some in omega arith)
begins (l ∷ a) ls h = no_mark 41 l (a ++ ls) (or_parts (is_mark 41 l) (is_mark 44 l) (part_rest 0 l a (part_of (l ∷ a) h)).0).0

begins_listed : (a : List Lexeme) (all : List (List Lexeme)) (ls : List Lexeme) → IsAngle a → mark_at 41 (listed (a ∷ all) ++ ls) ≡ None
begins_listed a [] ls h = begins a ls h
begins_listed a (b ∷ all) ls h = ap (mark_at 41) (append_assoc a (mark 44 ∷ listed (b ∷ all)) ls) ∙ begins a ((mark 44 ∷ listed (b ∷ all)) ++ ls) h

pub angles_written : (all : List (List Lexeme)) (r : List Lexeme) → AllByRecursion IsAngle all → angles_at (listed all ++ (mark 41 ∷ r)) ≡ Some (all, r)
angles_written [] r h = refl
angles_written (a ∷ all) r h =
    ap (λ x. option_map_or (λ rest. Some ([], rest)) x (filled (scan 0 (listed (a ∷ all) ++ (mark 41 ∷ r))))) (begins_listed a all (mark 41 ∷ r) h.0) ∙ ap filled (scan_written a all r h)
    ∙ ap (λ b. cond b None (Some (a ∷ all, r))) (all_some (a ∷ all) h)

no_angles : (all : List Argument) → AreArguments all → mark_at 40 (listed (written_each all)) ≡ None
no_angles (a ∷ b ∷ all) h = refl
no_angles _ h = refl

pub call_written : (name : List ℕ) (angles : Option (List (List Lexeme))) (all : List Argument) → AreAngles angles → AreArguments all
    → call_at name (written_angles angles ++ listed (written_each all)) ≡ Some (call name angles all)
call_written name None all g h =
    ap (call_from name (listed (written_each all))) (no_angles all h) ∙ ap (λ x. and_then x (λ all. Some (call name None all))) (arguments_written all h)
call_written name (Some angles) all g h =
    ap (λ x. and_then x (λ p. and_then (arguments_at p.1) (λ all. Some (call name (Some p.0) all))))
    (ap angles_at (append_assoc (listed angles) (mark 41 ∷ []) (listed (written_each all))) ∙ angles_written angles (listed (written_each all)) g)
    ∙ ap (λ x. and_then x (λ all. Some (call name (Some angles) all))) (arguments_written all h)

-- an argument before `->`
record CutTo (a : List Lexeme) (r : List Lexeme) : Type 0 where
  before : before_stop To (a ++ (arrow ∷ r)) ≡ a
  has : has_stop To (a ++ (arrow ∷ r)) ≡ true
  after : after_stop To (a ++ (arrow ∷ r)) ≡ r

cut_to : (name : List ℕ) (index : Option (List ℕ)) (r : List Lexeme) → CutTo (word name ∷ written_index index) r
cut_to name None r = record { before = refl; has = refl; after = refl }
cut_to name (Some d) r = record { before = refl; has = refl; after = refl }

pub measure_written : (a b : Argument) → IsArgument a → IsArgument b → measure_at (written_argument a ++ (arrow ∷ written_argument b)) ≡ Some (measure a b)
measure_written a b g h =
    let ls = written_argument a ++ (arrow ∷ written_argument b) in
    let t = cut_to a.name a.index (written_argument b) in
    ap (λ x. cond x (and_then (argument_at (before_stop To ls)) (λ a. and_then (argument_at (after_stop To ls)) (λ b. Some (measure a b)))) None) t.has
    ∙ ap (λ x. and_then x (λ a. and_then (argument_at (after_stop To ls)) (λ b. Some (measure a b)))) (ap argument_at t.before ∙ argument_written a g)
    ∙ ap (λ x. and_then x (λ b. Some (measure a b))) (ap argument_at t.after ∙ argument_written b h)

-- a test on a word that is no name
pub past : {A : Type 0} (name w : List ℕ) (x y : A) → is_name name ≡ true → is_name w ≡ false → cond (bytes_eq name w) x y ≡ y
past name w x y e f =
    cond-false (bytes_eq name w) x y (false_from_ne_true _ (λ h. let q : name ≡ w = (bytes_eq-Decides name w).0 h in let r : true ≡ false = sym e ∙ ap is_name q ∙ f in cc))
