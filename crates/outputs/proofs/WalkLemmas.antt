-- The walk over the lists of n bits that have a line in a listing, from one to the next.
use Rattle.std.proofs.Common.{◌≡◌, ℕ, zero, suc, ◌+◌, ◌-◌, ◌^◌, ◌<◌, ◌≤◌, refl, sym, ◌∙◌, ap, subst, Bool, true, false, not, cond, List, [], ◌++◌, length, get_or, take, drop, arith, append-nil, Option, Some, None, IfSome, IfNone}
use Rattle.std.proofs.Math.Seq.{take-length}
use Rattle.std.specs.Option.{ForSome}
use Rattle.std.specs.List.{flat_map, count_by}
use Rattle.std.proofs.lemmas.List.{take-append-drop}
use Rattle.std.proofs.lemmas.List.Sums.{fold_more}
use Rattle.std.proofs.lemmas.Grind.{flat_map-append}
use Rattle.bit_lists.specs.Lists.{all_lists, place_of, IsBefore}
use Rattle.bit_lists.proofs.Places.{listed, length-all_lists, get_or-all_lists, place_of-below}
use Rattle.bit_lists.proofs.OrderLemmas.{before-place, place-before}
use Rattle.amp_dense.specs.Nonzero.{IsAfter}
use Rattle.outputs.specs.Listing.{listing_of, number_listed}
use Rattle.outputs.proofs.ListingLemmas.{flat_map-take_more}

-- ---- places
-- the place behind the given list, or the first one
abbrev pub place_after : Option (List Bool) → ℕ
place_after None = 0
place_after (Some x) = place_of x + 1

-- the place of the list that comes next, or the one behind the last
abbrev pub place_next : ℕ → Option (List Bool) → ℕ
place_next n None = 2 ^ n
place_next n (Some x) = place_of x

pub place_below : (n : ℕ) (x : List Bool) → length x ≡ n → place_of x < 2 ^ n
place_below n x long = subst (λ k. place_of x < 2 ^ k) long (place_of-below x)

is_after : (n : ℕ) (given : Option (List Bool)) (x : List Bool) → ForSome given (λ y. length y ≡ n) → length x ≡ n → place_after given ≤ place_of x → IsAfter given x
is_after n None x same long h = tt
is_after n (Some y) x same long h = place-before y x (same y refl ∙ sym long) (omega arith)

from_after : (n : ℕ) (given : Option (List Bool)) (x : List Bool) → ForSome given (λ y. length y ≡ n) → length x ≡ n → IsAfter given x → place_after given ≤ place_of x
from_after n None x same long h = omega arith
from_after n (Some y) x same long h = omega (arith, before-place y x (same y refl ∙ sym long) h)

after_within : (n : ℕ) (given : Option (List Bool)) → ForSome given (λ y. length y ≡ n) → place_after given ≤ 2 ^ n
after_within n None same = omega arith
after_within n (Some y) same = omega (arith, place_below n y (same y refl))

-- the basis state that is given with its entry
abbrev pub state_of : {Q : Type 0} → Option (List Bool × Q) → Option (List Bool)
state_of None = None
state_of (Some e) = Some e.0

-- ---- what is found after a list
-- a list that has a line
pub record IsShown (n : ℕ) (left_out : List Bool → Bool) (x : List Bool) : Type 0 where
  pub long : length x ≡ n
  pub shown : left_out x ≡ false

-- the first after the given one that has a line
pub record IsFirst (n : ℕ) (left_out : List Bool → Bool) (given : Option (List Bool)) (x : List Bool) : Type 0 where
  pub long : length x ≡ n
  pub after : IsAfter given x
  pub shown : left_out x ≡ false
  pub first : (y : List Bool) → length y ≡ n → IsAfter given y → IsBefore y x → left_out y ≡ true

pub record IsFound (n : ℕ) (left_out : List Bool → Bool) (given next : Option (List Bool)) : Type 0 where
  pub alike : ForSome given (λ y. length y ≡ n)
  pub found : IfSome next (IsFirst n left_out given)
  pub none : IfNone next ((x : List Bool) → length x ≡ n → IsAfter given x → left_out x ≡ true)

module _ (n : ℕ) (left_out : List Bool → Bool) where
  -- what no list without a line changes is the same before a run of such lists and behind it
  skipped : {X : Type 0} (F : ℕ → X) → ((x : List Bool) → length x ≡ n → left_out x ≡ true → F (place_of x) ≡ F (place_of x + 1))
      → (from d : ℕ) → from + d ≤ 2 ^ n → ((x : List Bool) → length x ≡ n → from ≤ place_of x → place_of x < from + d → left_out x ≡ true) → F from ≡ F (from + d)
  skipped F over from zero most none = ap F (let e : from ≡ from + 0 = omega arith in e)
  skipped F over from (suc d) most none =
      let x = get_or (all_lists n) (from + d) [] in
      let (long, here) = listed n (from + d) [] (omega arith) in
      let next : place_of x + 1 ≡ from + suc d = omega arith in
      skipped F over from d (omega arith) (λ y l a b. none y l a (omega arith))
      ∙ ap F (sym here) ∙ over x long (none x long (omega arith) (omega arith)) ∙ ap F next

  over_run : {X : Type 0} (F : ℕ → X) → ((x : List Bool) → length x ≡ n → left_out x ≡ true → F (place_of x) ≡ F (place_of x + 1))
      → (from to : ℕ) → from ≤ to → to ≤ 2 ^ n → ((x : List Bool) → length x ≡ n → from ≤ place_of x → place_of x < to → left_out x ≡ true) → F from ≡ F to
  over_run F over from to less most none =
      let e : from + (to - from) ≡ to = omega arith in
      skipped F over from (to - from) (omega arith) (λ x l a b. none x l a (omega arith)) ∙ ap F e

  pub found_place : {X : Type 0} (F : ℕ → X) → ((x : List Bool) → length x ≡ n → left_out x ≡ true → F (place_of x) ≡ F (place_of x + 1))
      → (given next : Option (List Bool)) → IsFound n left_out given next → F (place_after given) ≡ F (place_next n next)
  found_place F over given None f =
      over_run F over (place_after given) (2 ^ n) (after_within n given f.alike) (omega arith)
      (λ y l a b. f.none y l (is_after n given y f.alike l a))
  found_place F over given (Some x) f =
      let here = f.found in
      over_run F over (place_after given) (place_of x) (from_after n given x f.alike here.long here.after) (let lt = place_below n x here.long in omega arith)
      (λ y l a b. here.first y l (is_after n given y f.alike l a) (place-before y x (l ∙ sym here.long) b))

  found_behind : (given next : Option (List Bool)) → IsFound n left_out given next → place_after given ≤ place_next n next
  found_behind given None f = after_within n given f.alike
  found_behind given (Some x) f = from_after n given x f.alike f.found.long f.found.after

  pub found_shown : (given next : Option (List Bool)) → IsFound n left_out given next → ForSome next (IsShown n left_out)
  found_shown given None f = λ x e. cc
  found_shown given (Some y) f = λ x e. let same : y ≡ x = cc in subst (IsShown n left_out) same (record { long = f.found.long; shown = f.found.shown })

  pub next_within : (next : Option (List Bool)) → ForSome next (IsShown n left_out) → place_next n next ≤ 2 ^ n
  next_within None s = omega arith
  next_within (Some x) s = let lt = place_below n x (s x refl).long in omega arith

  pub walked_further : (x : List Bool) (next then : Option (List Bool)) → next ≡ Some x → IsFound n left_out (Some x) then → place_next n next + 1 ≤ place_next n then
  walked_further x next then here f = let e : place_next n next ≡ place_of x = ap (place_next n) here in omega (arith, found_behind (Some x) then f)

  -- ---- how many have a line
  -- of those before a place
  unfoldable pub counted : ℕ → ℕ
  counted place = count_by (λ x. not (left_out x)) (take place (all_lists n))

  pub counted_none : counted 0 ≡ 0
  unfolding counted
  counted_none = refl

  counted_more : (x : List Bool) → length x ≡ n → counted (place_of x + 1) ≡ counted (place_of x) + cond (not (left_out x)) 1 0
  unfolding counted
  counted_more x long =
      let within : place_of x < length (all_lists n) = omega (arith, place_below n x long, length-all_lists n) in
      fold_more (λ (m : ℕ) (y : List Bool). m + cond (not (left_out y)) 1 0) 0 (all_lists n) (place_of x) [] within
      ∙ ap (λ y. counted (place_of x) + cond (not (left_out y)) 1 0) (get_or-all_lists n x [] long)

  counted_skip : (x : List Bool) → length x ≡ n → left_out x ≡ true → counted (place_of x) ≡ counted (place_of x + 1)
  counted_skip x long none = sym (counted_more x long ∙ ap (λ b. counted (place_of x) + cond (not b) 1 0) none ∙ omega arith)

  pub counted_all : counted (2 ^ n) ≡ number_listed n left_out
  unfolding counted
  counted_all = ap (λ l. count_by (λ x. not (left_out x)) l) (ap (λ i. take i (all_lists n)) (sym (length-all_lists n)) ∙ take-length (all_lists n))

  pub found_count : (given next : Option (List Bool)) → IsFound n left_out given next → counted (place_after given) ≡ counted (place_next n next)
  found_count given next f = found_place counted counted_skip given next f

  pub walked_count : (x : List Bool) (next then : Option (List Bool)) → next ≡ Some x → ForSome next (IsShown n left_out) → IsFound n left_out (Some x) then
      → counted (place_next n next) + 1 ≡ counted (place_next n then)
  walked_count x next then here shown f =
      ap (λ o. counted (place_next n o) + 1) here
      ∙ sym (counted_more x (shown x here).long ∙ ap (λ b. counted (place_of x) + cond (not b) 1 0) (shown x here).shown)
      ∙ found_count (Some x) then f

-- ---- the lines
module _ (n : ℕ) (left_out : List Bool → Bool) (text : List Bool → List ℕ) where
  -- the line of a list, or nothing where it is left out
  abbrev line : List Bool → List ℕ
  line x = cond (left_out x) [] (text x)

  -- the lines before a place
  unfoldable pub lines : ℕ → List ℕ
  lines place = flat_map line (take place (all_lists n))

  pub lines_none : [] ≡ lines 0
  unfolding lines
  lines_none = refl

  lines_more : (x : List Bool) → length x ≡ n → lines (place_of x + 1) ≡ lines (place_of x) ++ line x
  unfolding lines
  lines_more x long =
      let within : place_of x < length (all_lists n) = omega (arith, place_below n x long, length-all_lists n) in
      flat_map-take_more line (all_lists n) (place_of x) [] within ∙ ap (λ y. flat_map line (take (place_of x) (all_lists n)) ++ line y) (get_or-all_lists n x [] long)

  lines_skip : (x : List Bool) → length x ≡ n → left_out x ≡ true → lines (place_of x) ≡ lines (place_of x + 1)
  lines_skip x long none =
      sym (lines_more x long ∙ ap (λ b. lines (place_of x) ++ cond b [] (text x)) none ∙ append-nil (lines (place_of x)))

  pub lines_all : (place : ℕ) → place ≡ 2 ^ n → lines place ≡ listing_of n left_out text
  unfolding lines
  lines_all place all = ap (flat_map line) (ap (λ i. take i (all_lists n)) (all ∙ sym (length-all_lists n)) ∙ take-length (all_lists n))

  -- the lines before a place are a front of the listing
  pub lines_front : (place : ℕ) → (rest : List ℕ) × (lines place ++ rest ≡ listing_of n left_out text)
  unfolding lines
  lines_front place = (
    flat_map line (drop place (all_lists n)),
    sym (flat_map-append line (take place (all_lists n)) (drop place (all_lists n))) ∙ ap (flat_map line) (take-append-drop place (all_lists n)),
  )

  pub found_lines : (given next : Option (List Bool)) → IsFound n left_out given next → lines (place_after given) ≡ lines (place_next n next)
  found_lines given next f = found_place n left_out lines lines_skip given next f

  -- the line of the next list
  walked_line : (x : List Bool) (next : Option (List Bool)) (sent : List ℕ) → next ≡ Some x → ForSome next (IsShown n left_out) → sent ≡ text x
      → lines (place_next n next) ++ sent ≡ lines (place_of x + 1)
  walked_line x next sent here shown same =
      ap (λ o. lines (place_next n o) ++ sent) here ∙ ap (λ t. lines (place_of x) ++ t) same
      ∙ sym (lines_more x (shown x here).long ∙ ap (λ b. lines (place_of x) ++ cond b [] (text x)) (shown x here).shown)

  pub walked_lines : (x : List Bool) (next then : Option (List Bool)) (sent : List ℕ) → next ≡ Some x → ForSome next (IsShown n left_out) → sent ≡ text x
      → IsFound n left_out (Some x) then → lines (place_next n next) ++ sent ≡ lines (place_next n then)
  walked_lines x next then sent here shown same f = walked_line x next sent here shown same ∙ found_lines (Some x) then f

  -- what was sent with it is a front of the listing
  pub walked_front : (x : List Bool) (next : Option (List Bool)) (sent : List ℕ) → next ≡ Some x → ForSome next (IsShown n left_out) → sent ≡ text x
      → (rest : List ℕ) × ((lines (place_next n next) ++ sent) ++ rest ≡ listing_of n left_out text)
  walked_front x next sent here shown same =
      let rest = lines_front (place_of x + 1) in
      (rest.0, ap (λ t. t ++ rest.0) (walked_line x next sent here shown same) ∙ rest.1)
