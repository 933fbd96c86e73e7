-- The size of the functions of nodes is a number of nodes.
use Rattle.std.proofs.Common.{◌≡◌, ◌≢◌, ◌⊎◌, ℕ, zero, suc, ◌+◌, ◌<◌, Bool, true, false, not, eqb, List, [], ◌∷◌, ◌++◌, map, filter, length, Option, Some, None, inl, inr, refl, sym, ◌∙◌, ap, arith, eq-eqb}
use Rattle.std.specs.Prelude.{◌&&◌, ◌||◌}
use Rattle.std.specs.Set.{distinct_count, unique_keys, is_member}
use Rattle.std.proofs.lemmas.Bool.{cases_eq, cond-true, cond-false, ne_eqb, cases_Bool, and_parts}
use mathlib.Core.Path.{fun_ext}
use Rattle.bit_lists.proofs.Variables.{has-here, has-head}
use Rattle.bit_lists.specs.Lists.{all_lists}
use Rattle.bit_lists.specs.Orders.{has, AreVars}
use Rattle.diagram_model.specs.Functions.{bit, Function, fix}
use Rattle.diagram_model.specs.Nodes.{parts_of, follow, walk, value, IsLiveIn, AreProper, AreUnique, SameFunction, denoted}
use Rattle.diagram_model.specs.Size.{truths, same_bool, same_truths, depends, fix_both, level_size, size}
use Rattle.diagram_model.specs.declared.parts.Parts.{Parts}
use Rattle.diagram_model.proofs.Values.{below-order}
use Rattle.diagram_model.proofs.Canonical.{cases_var, follow-at, follow-other, proper-tail, live-follow, value-fixed, same_node}

-- whether a node has the variable
abbrev pub has_var_of : ℕ → Option Parts → Bool
has_var_of v None = false
has_var_of v (Some p) = eqb p.var v

abbrev pub has_var : List (Option Parts) → ℕ → ℕ → Bool
has_var s v n = has_var_of v (parts_of s n)

unfoldable pub follow_both : List (Option Parts) → ℕ → List ℕ → List ℕ
follow_both s v [] = []
follow_both s v (n ∷ ns) = follow s v false n ∷ follow s v true n ∷ follow_both s v ns

-- how many different nodes of each variable come up
unfoldable pub node_count : List (Option Parts) → List ℕ → List ℕ → ℕ
node_count s [] ns = 0
node_count s (v ∷ vs) ns = distinct_count eqb (filter (has_var s v) ns) + node_count s vs (follow_both s v ns)

fixed_function : (s : List (Option Parts)) (v : ℕ) (vs : List ℕ) (n : ℕ) → has vs v ≡ false → (b : Bool) → fix v b (denoted s (v ∷ vs) n) ≡ denoted s vs (follow s v b n)
fixed_function s v vs n once b = fun_ext (λ x. value-fixed s v vs n once b x)

fixed_functions : (s : List (Option Parts)) (v : ℕ) (vs ns : List ℕ) → has vs v ≡ false → fix_both v (map (denoted s (v ∷ vs)) ns) ≡ map (denoted s vs) (follow_both s v ns)
unfolding fix_both follow_both
fixed_functions s v vs [] once = refl
fixed_functions s v vs (n ∷ ns) once =
    let build = λ (f : Function) (g : Function) (fs : List Function). let r : List Function = f ∷ g ∷ fs in r in
    ap (λ f. build f (fix v true (denoted s (v ∷ vs) n)) (fix_both v (map (denoted s (v ∷ vs)) ns))) (fixed_function s v vs n once false)
    ∙ ap (λ g. build (denoted s vs (follow s v false n)) g (fix_both v (map (denoted s (v ∷ vs)) ns))) (fixed_function s v vs n once true)
    ∙ ap (λ fs. build (denoted s vs (follow s v false n)) (denoted s vs (follow s v true n)) fs) (fixed_functions s v vs ns once)

-- a walk reads the variables of its list alone
pub walk-agree : (s : List (Option Parts)) (vs : List ℕ) (x y : ℕ → Bool) (n : ℕ) → ((v : ℕ) → has vs v ≡ true → x v ≡ y v) → walk s vs x n ≡ walk s vs y n
unfolding walk
walk-agree s [] x y n h = refl
walk-agree s (v ∷ vs) x y n h =
    ap (λ t. walk s vs x (follow s v t n)) (h v (has-here v vs v refl)) ∙ walk-agree s vs x y (follow s v (y v) n) (λ w g. h w (has-head v w vs g))

abbrev pub Among : List (List Bool) → List Bool → Type 0
Among [] l = ⊥
Among (m ∷ ms) l = (m ≡ l) ⊎ Among ms l

among_left : (ks bs : List (List Bool)) (l : List Bool) → Among ks l → Among (ks ++ bs) l
among_left [] bs l h = absurd h
among_left (m ∷ ms) bs l (inl h) = inl h
among_left (m ∷ ms) bs l (inr h) = inr (among_left ms bs l h)

among_right : (ks bs : List (List Bool)) (l : List Bool) → Among bs l → Among (ks ++ bs) l
among_right [] bs l h = h
among_right (m ∷ ms) bs l h = inr (among_right ms bs l h)

among_map : (b : Bool) (ms : List (List Bool)) (l : List Bool) → Among ms l → Among (map (λ bs. b ∷ bs) ms) (b ∷ l)
among_map b [] l h = absurd h
among_map b (m ∷ ms) l (inl h) = inl (ap (λ t. b ∷ t) h)
among_map b (m ∷ ms) l (inr h) = inr (among_map b ms l h)

-- the first k values of x
take_bits : ℕ → (ℕ → Bool) → List Bool
take_bits zero x = []
take_bits (suc k) x = x 0 ∷ take_bits k (λ w. x (suc w))

pub among_either : (b : Bool) (ls : List (List Bool)) (l : List Bool) → Among ls l → Among (map (λ bs. false ∷ bs) ls ++ map (λ bs. true ∷ bs) ls) (b ∷ l)
among_either false ls l h = among_left (map (λ bs. false ∷ bs) ls) (map (λ bs. true ∷ bs) ls) (false ∷ l) (among_map false ls l h)
among_either true ls l h = among_right (map (λ bs. false ∷ bs) ls) (map (λ bs. true ∷ bs) ls) (true ∷ l) (among_map true ls l h)

among_all : (k : ℕ) (x : ℕ → Bool) → Among (all_lists k) (take_bits k x)
unfolding take_bits
among_all zero x = inl refl
among_all (suc k) x = among_either (x 0) (all_lists k) (take_bits k (λ w. x (suc w))) (among_all k (λ w. x (suc w)))

bit_take : (k : ℕ) (x : ℕ → Bool) (w : ℕ) → w < k → bit (take_bits k x) w ≡ x w
unfolding take_bits
bit_take zero x w h = absurd (omega arith)
bit_take (suc k) x zero h = refl
bit_take (suc k) x (suc w) h = bit_take k (λ v. x (suc v)) w (omega arith)

pub same_bool-true : (a b : Bool) → same_bool a b ≡ true → a ≡ b
same_bool-true true b h = sym h
same_bool-true false true h = h
same_bool-true false false h = refl

same_bool-refl : (a : Bool) → same_bool a a ≡ true
same_bool-refl true = refl
same_bool-refl false = refl

pub same_truths-at : (F G : List Bool → Bool) (ls : List (List Bool)) (l : List Bool) → same_truths (map F ls) (map G ls) ≡ true → Among ls l → F l ≡ G l
unfolding same_truths
same_truths-at F G [] l same h = absurd h
same_truths-at F G (m ∷ ms) l same (inl h) =
    let e = same_bool-true (F m) (G m) (and_parts (same_bool (F m) (G m)) (same_truths (map F ms) (map G ms)) same).0 in
    ap F (sym h) ∙ e ∙ ap G h
same_truths-at F G (m ∷ ms) l same (inr h) = same_truths-at F G ms l (and_parts (same_bool (F m) (G m)) (same_truths (map F ms) (map G ms)) same).1 h

pub same_truths-refl : (ts : List Bool) → same_truths ts ts ≡ true
unfolding same_truths
same_truths-refl [] = refl
same_truths-refl (t ∷ ts) = ap (λ b. b && same_truths ts ts) (same_bool-refl t) ∙ same_truths-refl ts

-- nodes whose truth lists agree denote the same function
pub same_from_truths : (s : List (Option Parts)) (k : ℕ) (vs : List ℕ) (n m : ℕ) → AreVars k vs → same_truths (truths k (denoted s vs n)) (truths k (denoted s vs m)) ≡ true → SameFunction s vs n m
unfolding truths value
same_from_truths s k vs n m vars same x =
    let y = bit (take_bits k x) in
    let agree : (l : ℕ) → walk s vs x l ≡ walk s vs y l = λ l. walk-agree s vs x y l (λ v h. sym (bit_take k x v (below-order k vs v vars h))) in
    let at = same_truths-at (λ bs. value s vs (bit bs) n) (λ bs. value s vs (bit bs) m) (all_lists k) (take_bits k x) same (among_all k x) in
    ap (λ l. eqb l 1) (agree n) ∙ at ∙ ap (λ l. eqb l 1) (sym (agree m))

truths_tell : (s : List (Option Parts)) (k : ℕ) (vs : List ℕ) (n m : ℕ) → AreVars k vs → AreProper s vs → AreUnique s → IsLiveIn s vs n → IsLiveIn s vs m → same_truths (truths k (denoted s vs n)) (truths k (denoted s vs m)) ≡ eqb n m
truths_tell s k vs n m vars proper unique ln lm =
    elim (cases_eq n m) [
      | inl e ↦ ap (λ l. same_truths (truths k (denoted s vs n)) (truths k (denoted s vs l))) (sym e) ∙ same_truths-refl (truths k (denoted s vs n)) ∙ sym (eq-eqb n m e)
      | inr ne ↦ elim (cases_Bool (same_truths (truths k (denoted s vs n)) (truths k (denoted s vs m)))) [
        | inl e ↦ absurd (ne (same_node s k vs n m vars proper unique ln lm (same_from_truths s k vs n m vars e)))
        | inr e ↦ e ∙ sym (ne_eqb n m ne)
      ]
    ]

has_var-true : (o : Option Parts) (v : ℕ) (p : Parts) → o ≡ Some p → p.var ≡ v → has_var_of v o ≡ true
has_var-true o v p is at = rw is (eq-eqb p.var v at)

has_var-false : (o : Option Parts) (v : ℕ) → ((p : Parts) → o ≡ Some p → p.var ≢ v) → has_var_of v o ≡ false
has_var-false None v lacks = refl
has_var-false (Some p) v lacks = ne_eqb p.var v (lacks p refl)

-- a node's function depends on the first variable exactly where the node has it
depends_is : (s : List (Option Parts)) (k v : ℕ) (vs : List ℕ) (n : ℕ) → AreVars k (v ∷ vs) → AreProper s (v ∷ vs) → AreUnique s → IsLiveIn s (v ∷ vs) n → depends k v (denoted s (v ∷ vs) n) ≡ has_var s v n
depends_is s k v vs n vars proper unique live =
    let low = follow s v false n in
    let high = follow s v true n in
    let rest = proper-tail s v vs vars.1 proper in
    let told = truths_tell s k vs low high vars.2 rest unique (live-follow s v vs n proper live false) (live-follow s v vs n proper live true) in
    let fixed : same_truths (truths k (fix v false (denoted s (v ∷ vs) n))) (truths k (fix v true (denoted s (v ∷ vs) n))) ≡ eqb low high =
    ap (λ f. same_truths (truths k f) (truths k (fix v true (denoted s (v ∷ vs) n)))) (fixed_function s v vs n vars.1 false)
    ∙ ap (λ g. same_truths (truths k (denoted s vs low)) (truths k g)) (fixed_function s v vs n vars.1 true) ∙ told in
    ap not fixed ∙ elim (cases_var s v n) [
      | inl at ↦
          let ne : low ≢ high = λ e. (proper n at.0 at.1 (has-here v vs at.0.var at.2)).differ (sym (follow-at s v n at.0 at.1 at.2 false) ∙ e ∙ follow-at s v n at.0 at.1 at.2 true) in
          ap not (ne_eqb low high ne) ∙ sym (has_var-true (parts_of s n) v at.0 at.1 at.2)
      | inr lacks ↦
          let e : low ≡ high = follow-other s v n lacks false ∙ sym (follow-other s v n lacks true) in
          ap not (eq-eqb low high e) ∙ sym (has_var-false (parts_of s n) v lacks)
    ]

-- each number of the list satisfies P
abbrev pub Each : (ℕ → Type 0) → List ℕ → Type 0
Each P [] = Unit {0}
Each P (n ∷ ns) = P n × Each P ns

each_filter : (P : ℕ → Type 0) (test : ℕ → Bool) (ns : List ℕ) → Each P ns → Each P (filter test ns)
each_filter P test [] h = tt
each_filter P test (n ∷ ns) h =
    let rest = each_filter P test ns h.1 in
    elim (cases_Bool (test n)) [
      | inl e ↦ rw (cond-true (test n) (n ∷ filter test ns) (filter test ns) e) (h.0, rest)
      | inr e ↦ rw (cond-false (test n) (n ∷ filter test ns) (filter test ns) e) rest
    ]

module _ (P : ℕ → Type 0) (g : ℕ → List Bool) (tells : (n m : ℕ) → P n → P m → same_truths (g n) (g m) ≡ eqb n m) where
  member_map : (n : ℕ) (ns : List ℕ) → P n → Each P ns → is_member same_truths (map g ns) (g n) ≡ is_member eqb ns n
  member_map n [] p h = refl
  member_map n (m ∷ ns) p h =
      ap (λ b. b || is_member same_truths (map g ns) (g n)) (tells n m p h.0) ∙ ap (λ b. eqb n m || b) (member_map n ns p h.1)

  count_map : (ns : List ℕ) → Each P ns → distinct_count same_truths (map g ns) ≡ distinct_count eqb ns
  count_map [] h = refl
  count_map (n ∷ ns) h =
      let same = member_map n ns h.0 h.1 in
      let rest = count_map ns h.1 in
      elim (cases_Bool (is_member eqb ns n)) [
        | inl e ↦
            ap length (cond-true (is_member same_truths (map g ns) (g n)) (unique_keys same_truths (map g ns)) (g n ∷ unique_keys same_truths (map g ns)) (same ∙ e))
            ∙ rest ∙ ap length (sym (cond-true (is_member eqb ns n) (unique_keys eqb ns) (n ∷ unique_keys eqb ns) e))
        | inr e ↦
            ap length (cond-false (is_member same_truths (map g ns) (g n)) (unique_keys same_truths (map g ns)) (g n ∷ unique_keys same_truths (map g ns)) (same ∙ e))
            ∙ ap suc rest ∙ ap length (sym (cond-false (is_member eqb ns n) (unique_keys eqb ns) (n ∷ unique_keys eqb ns) e))
      ]

  filter_map_same : (F : ℕ → Function) (test : Function → Bool) (own : ℕ → Bool) → ((n : ℕ) → P n → test (F n) ≡ own n) → (ns : List ℕ) → Each P ns → filter test (map F ns) ≡ map F (filter own ns)
  filter_map_same F test own e [] h = refl
  filter_map_same F test own e (n ∷ ns) h =
      let rest = filter_map_same F test own e ns h.1 in
      elim (cases_Bool (own n)) [
        | inl t ↦ cond-true (test (F n)) (F n ∷ filter test (map F ns)) (filter test (map F ns)) (e n h.0 ∙ t) ∙ ap (λ l. F n ∷ l) rest ∙ ap (map F) (sym (cond-true (own n) (n ∷ filter own ns) (filter own ns) t))
        | inr t ↦ cond-false (test (F n)) (F n ∷ filter test (map F ns)) (filter test (map F ns)) (e n h.0 ∙ t) ∙ rest ∙ ap (map F) (sym (cond-false (own n) (n ∷ filter own ns) (filter own ns) t))
      ]

map_map : (F : ℕ → Function) (t : Function → List Bool) (ns : List ℕ) → map t (map F ns) ≡ map (λ n. t (F n)) ns
map_map F t [] = refl
map_map F t (n ∷ ns) = ap (λ l. t (F n) ∷ l) (map_map F t ns)

follow_each : (s : List (Option Parts)) (v : ℕ) (vs ns : List ℕ) → AreProper s (v ∷ vs) → Each (IsLiveIn s (v ∷ vs)) ns → Each (IsLiveIn s vs) (follow_both s v ns)
unfolding follow_both
follow_each s v vs [] proper h = tt
follow_each s v vs (n ∷ ns) proper h = (live-follow s v vs n proper h.0 false, (live-follow s v vs n proper h.0 true, follow_each s v vs ns proper h.1))

level_is : (s : List (Option Parts)) (k v : ℕ) (vs ns : List ℕ) → AreVars k (v ∷ vs) → AreProper s (v ∷ vs) → AreUnique s → Each (IsLiveIn s (v ∷ vs)) ns → level_size k v (map (denoted s (v ∷ vs)) ns) ≡ distinct_count eqb (filter (has_var s v) ns)
level_is s k v vs ns vars proper unique h =
    let F = denoted s (v ∷ vs) in
    let live : ℕ → Type 0 = IsLiveIn s (v ∷ vs) in
    let tells = λ (n : ℕ) (m : ℕ) (a : live n) (b : live m). truths_tell s k (v ∷ vs) n m vars proper unique a b in
    let kept = filter_map_same live (λ n. truths k (F n)) tells F (depends k v) (has_var s v) (λ n a. depends_is s k v vs n vars proper unique a) ns h in
    ap (λ fs. distinct_count same_truths (map (truths k) fs)) kept
    ∙ ap (distinct_count same_truths) (map_map F (truths k) (filter (has_var s v) ns))
    ∙ count_map live (λ n. truths k (F n)) tells (filter (has_var s v) ns) (each_filter live (has_var s v) ns h)

-- The size of the functions of live nodes is the number of different nodes met level by level.
pub size_is : (s : List (Option Parts)) (k : ℕ) (vs ns : List ℕ) → AreVars k vs → AreProper s vs → AreUnique s → Each (IsLiveIn s vs) ns → size k vs (map (denoted s vs) ns) ≡ node_count s vs ns
unfolding size node_count
size_is s k [] ns vars proper unique h = refl
size_is s k (v ∷ vs) ns vars proper unique h =
    let here = level_is s k v vs ns vars proper unique h in
    let rest = ap (size k vs) (fixed_functions s v vs ns vars.1) ∙ size_is s k vs (follow_both s v ns) vars.2 (proper-tail s v vs vars.1 proper) unique (follow_each s v vs ns proper h) in
    ap (λ n. n + size k vs (fix_both v (map (denoted s (v ∷ vs)) ns))) here ∙ ap (λ n. distinct_count eqb (filter (has_var s v) ns) + n) rest
