-- The walk over nodes is the walk over their functions.
use Rattle.std.proofs.Common.{◌≡◌, ℕ, suc, ◌<◌, Bool, true, false, cond, eqb, List, [], ◌∷◌, ◌++◌, map, flat_map, length, Some, None, inl, inr, refl, sym, ◌∙◌, ap, eq-eqb, arith}
use Rattle.std.proofs.lemmas.Bool.{cases_eq, ne_eqb, false_from_ne_true}
use Rattle.std.proofs.lemmas.List.{map-append}
use mathlib.Core.Path.{fun_ext}
use Rattle.bit_lists.specs.Orders.{has, after, place_in}
use Rattle.bit_lists.proofs.Variables.{has-head, has-here}
use Rattle.diagram_model.specs.declared.parts.Parts.{Parts}
use Rattle.diagram_model.specs.Functions.{Function, fix}
use Rattle.diagram_model.specs.Nodes.{parts_of, child, IsLiveIn}
use Rattle.diagram_model.specs.Size.{truths, depends}
use Rattle.diagram_model.specs.Stores.{Diagram, IsLive, IsAbove, IsSound, from, function_of}
use Rattle.diagram_model.proofs.Canonical.{follow-at}
use Rattle.diagram_model.proofs.Counting.{same_is, is_same, ignores_depends}
use Rattle.diagram_model.proofs.Fixing.{above_live, fix_function, ignores_above, ignores_higher}
use Rattle.diagram_model.proofs.Telling.{truths_one, node_depends}
use Rattle.diagram_model.proofs.Values.{after-after, value-small}
use Rattle.snapshot.specs.Numbers.{NodeLine, same, knows, number_in, visited, visited_all, line_of, never, always}
use Rattle.snapshot.specs.Sheets.{node_text}
use Rattle.snapshot.specs.Private.{functions, parts_line, line_in, lines_text, places_in}
use Rattle.snapshot.proofs.Skipping.{IsBelow, visited_known, visited_here, visited_skip, line_here, line_skip, line_none, after_in}

-- ---- nodes by their functions
abbrev pub AreLive : Diagram → List ℕ → Type 0
AreLive d ns = (n : ℕ) → has ns n ≡ true → IsLive d n

live_tail : (d : Diagram) (m : ℕ) (ns : List ℕ) → AreLive d (m ∷ ns) → AreLive d ns
live_tail d m ns live n h = live n (has-head m n ns h)

live_head : (d : Diagram) (m : ℕ) (ns : List ℕ) → AreLive d (m ∷ ns) → IsLive d m
live_head d m ns live = live m (has-here m ns m refl)

-- functions of live nodes are the same where the nodes are
same_one : (d : Diagram) (n m : ℕ) → IsSound d → IsLive d n → IsLive d m → same (length d.order) (function_of d n) (function_of d m) ≡ eqb n m
same_one d n m s ln lm =
    let k = length d.order in
    elim (cases_eq n m) [
      | inl e ↦ is_same (truths k (function_of d n)) (truths k (function_of d m)) (ap (λ i. truths k (function_of d i)) e) ∙ sym (eq-eqb n m e)
      | inr ne ↦
          false_from_ne_true (same k (function_of d n) (function_of d m)) (λ h. ne (truths_one d n m s ln lm (same_is (truths k (function_of d n)) (truths k (function_of d m)) h)))
          ∙ sym (ne_eqb n m ne)
    ]

pub knows_is : (d : Diagram) (ns : List ℕ) (n : ℕ) → IsSound d → AreLive d ns → IsLive d n → knows (length d.order) (functions d ns) (function_of d n) ≡ has ns n
unfolding knows has
knows_is d [] n s live here = refl
knows_is d (m ∷ ns) n s live here =
    ap (λ b. cond b true (knows (length d.order) (functions d ns) (function_of d n))) (same_one d m n s (live_head d m ns live) here)
    ∙ ap (λ b. cond (eqb m n) true b) (knows_is d ns n s (live_tail d m ns live) here)

pub number_is : (d : Diagram) (ns : List ℕ) (n : ℕ) → IsSound d → AreLive d ns → IsLive d n → number_in (length d.order) (functions d ns) (function_of d n) ≡ place_in ns n
unfolding number_in place_in
number_is d [] n s live here = refl
number_is d (m ∷ ns) n s live here =
    ap (λ b. cond b 0 (suc (number_in (length d.order) (functions d ns) (function_of d n)))) (same_one d m n s (live_head d m ns live) here)
    ∙ ap (λ i. cond (eqb m n) 0 (suc i)) (number_is d ns n s (live_tail d m ns live) here)

pub numbers_are : (d : Diagram) (ns ms : List ℕ) → IsSound d → AreLive d ns → AreLive d ms → map (number_in (length d.order) (functions d ns)) (functions d ms) ≡ places_in ns ms
numbers_are d ns [] s live here = refl
numbers_are d ns (m ∷ ms) s live here =
    ap (λ i. i ∷ map (number_in (length d.order) (functions d ns)) (functions d ms)) (number_is d ns m s live (live_head d m ms here))
    ∙ ap (λ is. place_in ns m ∷ is) (numbers_are d ns ms s live (live_tail d m ms here))

-- ---- a held node
live_here : (d : Diagram) (n : ℕ) (p : Parts) → IsSound d → parts_of d.slots n ≡ Some p → IsLiveIn d.slots (from d.order p.var) n
live_here d n p s is = inr (record { parts = p; is = is; below = has-here p.var (after d.order p.var) p.var refl })

below_here : (d : Diagram) (n : ℕ) (p : Parts) → IsSound d → parts_of d.slots n ≡ Some p → IsBelow (length d.order) d.order p.var (function_of d n)
below_here d n p s is u there = ignores_depends (length d.order) u (function_of d n) (ignores_higher d u p.var n s there (live_here d n p s is))

pub reads_here : (d : Diagram) (n : ℕ) (p : Parts) → IsSound d → parts_of d.slots n ≡ Some p → depends (length d.order) p.var (function_of d n) ≡ true
reads_here d n p s is = node_depends d p.var n s (s.diagram.within n p is) (live_here d n p s is) (p, is, refl)

fixed_here : (d : Diagram) (n : ℕ) (p : Parts) (b : Bool) → IsSound d → parts_of d.slots n ≡ Some p → fix p.var b (function_of d n) ≡ function_of d (child b p)
fixed_here d n p b s is =
    fix_function d p.var n b s (s.diagram.within n p is) (live_here d n p s is) ∙ ap (function_of d) (follow-at d.slots p.var n p is refl b)

-- the constants
small_function : (d : Diagram) (n : ℕ) → IsSound d → n < 2 → (x : ℕ → Bool) → function_of d n x ≡ eqb n 1
unfolding function_of
small_function d n s lt x = value-small d.slots (length d.order) d.order n s.diagram lt x

pub never_is : (d : Diagram) → IsSound d → function_of d 0 ≡ never
never_is d s = fun_ext (λ x. small_function d 0 s (omega arith) x)

pub always_is : (d : Diagram) → IsSound d → function_of d 1 ≡ always
always_is d s = fun_ext (λ x. small_function d 1 s (omega arith) x)

-- ---- the walk
-- each constant is there
abbrev pub HasConstants : List ℕ → Type 0
HasConstants ns = (n : ℕ) → n < 2 → has ns n ≡ true

-- below a variable the walk need not begin at the top
visited_below : (d : Diagram) (v n : ℕ) (ns : List ℕ) → IsSound d → has d.order v ≡ true → IsAbove d v n → AreLive d ns → HasConstants ns → visited (length d.order) (after d.order v) (function_of d n) (functions d ns) ≡ visited (length d.order) d.order (function_of d n) (functions d ns)
visited_below d v n ns s is (inl small) live constants =
    let k = length d.order in
    let known : knows k (functions d ns) (function_of d n) ≡ true = knows_is d ns n s live (inl small) ∙ constants n small in
    visited_known k (after d.order v) (function_of d n) (functions d ns) known ∙ sym (visited_known k d.order (function_of d n) (functions d ns) known)
visited_below d v n ns s is (inr h) live constants =
    let k = length d.order in
    let p = h.parts in
    let whole : IsBelow k d.order p.var (function_of d n) = below_here d n p s h.is in
    let part : IsBelow k (after d.order v) p.var (function_of d n) = λ u there.
    whole u (ap (λ l. has l p.var) (after-after k d.order v u s.diagram.order (after_in (after d.order v) u p.var there)) ∙ there) in
    visited_skip k (after d.order v) p.var (function_of d n) (functions d ns) h.below part
    ∙ ap (λ l. visited k (p.var ∷ l) (function_of d n) (functions d ns)) (sym (after-after k d.order v p.var s.diagram.order h.below))
    ∙ sym (visited_skip k d.order p.var (function_of d n) (functions d ns) (s.diagram.within n p h.is) whole)

-- a new node comes after what its children bring
pub visited_node : (d : Diagram) (n : ℕ) (p : Parts) (ns ls hs : List ℕ) → IsSound d → parts_of d.slots n ≡ Some p → AreLive d ns → AreLive d ls → HasConstants ns → HasConstants ls → has ns n ≡ false
    → functions d ls ≡ visited (length d.order) d.order (function_of d p.low) (functions d ns)
    → functions d hs ≡ visited (length d.order) d.order (function_of d p.high) (functions d ls)
    → functions d (hs ++ n ∷ []) ≡ visited (length d.order) d.order (function_of d n) (functions d ns)
visited_node d n p ns ls hs s is live lives constants more new low high =
    let k = length d.order in
    let v = p.var in
    let f = function_of d n in
    let vs = after d.order v in
    let at = s.diagram.within n p is in
    let proper = s.diagram.proper n p is at in
    let here : IsLive d n = inr (record { parts = p; is = is; below = at }) in
    let first : visited k vs (fix v false f) (functions d ns) ≡ functions d ls =
    ap (λ g. visited k vs g (functions d ns)) (fixed_here d n p false s is) ∙ visited_below d v p.low ns s at proper.low live constants ∙ sym low in
    let second : visited k vs (fix v true f) (functions d ls) ≡ functions d hs =
    ap (λ g. visited k vs g (functions d ls)) (fixed_here d n p true s is) ∙ visited_below d v p.high ls s at proper.high lives more ∙ sym high in
    map-append (function_of d) hs (n ∷ [])
    ∙ sym (
    visited_skip k d.order v f (functions d ns) at (below_here d n p s is)
    ∙ visited_here k v vs f (functions d ns) (knows_is d ns n s live here ∙ new) (reads_here d n p s is)
    ∙ ap (λ fs. visited k vs (fix v true f) fs ++ f ∷ []) first
    ∙ ap (λ fs. fs ++ f ∷ []) second
    )

-- a node that is there brings nothing
pub visited_old : (d : Diagram) (n : ℕ) (ns : List ℕ) → IsSound d → AreLive d ns → IsLive d n → has ns n ≡ true → functions d ns ≡ visited (length d.order) d.order (function_of d n) (functions d ns)
visited_old d n ns s live here there =
    sym (visited_known (length d.order) d.order (function_of d n) (functions d ns) (knows_is d ns n s live here ∙ there))

pub visited_all_append : (k : ℕ) (order : List ℕ) (gs hs fs : List Function) → visited_all k order (gs ++ hs) fs ≡ visited_all k order hs (visited_all k order gs fs)
unfolding visited_all
visited_all_append k order [] hs fs = refl
visited_all_append k order (g ∷ gs) hs fs = visited_all_append k order gs hs (visited k order g fs)

pub visited_one : (k : ℕ) (order : List ℕ) (gs fs : List Function) (g : Function) → visited_all k order (gs ++ g ∷ []) fs ≡ visited k order g (visited_all k order gs fs)
unfolding visited_all
visited_one k order gs fs g = visited_all_append k order gs (g ∷ []) fs

-- ---- lines
abbrev pub line : ℕ → ℕ → ℕ → NodeLine
line v l h = record { var = v; low = l; high = h }

pub some_line : (ns : List ℕ) (p : Parts) (l h : ℕ) → l ≡ place_in ns p.low → h ≡ place_in ns p.high → line p.var l h ≡ parts_line ns (Some p)
unfolding parts_line
some_line ns p l h el eh = ap (λ i. line p.var i h) el ∙ ap (λ i. line p.var (place_in ns p.low) i) eh

pub none_line : (ns : List ℕ) → line 0 0 0 ≡ parts_line ns None
unfolding parts_line
none_line ns = refl

none_here : (d : Diagram) (n : ℕ) → IsSound d → n < 2 → (u : ℕ) → depends (length d.order) u (function_of d n) ≡ false
none_here d n s lt u = ignores_depends (length d.order) u (function_of d n) (ignores_above d u n s (inl lt))

line_parts : (d : Diagram) (ns : List ℕ) (n : ℕ) (p : Parts) → IsSound d → AreLive d ns → parts_of d.slots n ≡ Some p → line_of (length d.order) d.order (functions d ns) (function_of d n) ≡ parts_line ns (Some p)
unfolding parts_line
line_parts d ns n p s live is =
    let k = length d.order in
    let fs = functions d ns in
    let f = function_of d n in
    let v = p.var in
    let at = s.diagram.within n p is in
    let proper = s.diagram.proper n p is at in
    line_skip k d.order v fs f at (below_here d n p s is) ∙ line_here k v (after d.order v) fs f (reads_here d n p s is)
    ∙ ap (λ i. line v i (number_in k fs (fix v true f))) (ap (number_in k fs) (fixed_here d n p false s is) ∙ number_is d ns p.low s live (above_live d v p.low proper.low))
    ∙ ap (λ i. line v (place_in ns p.low) i) (ap (number_in k fs) (fixed_here d n p true s is) ∙ number_is d ns p.high s live (above_live d v p.high proper.high))

line_small : (d : Diagram) (ns : List ℕ) (n : ℕ) → IsSound d → n < 2 → line_of (length d.order) d.order (functions d ns) (function_of d n) ≡ parts_line ns None
unfolding parts_line
line_small d ns n s lt = line_none (length d.order) d.order (functions d ns) (function_of d n) (none_here d n s lt)

pub line_is : (d : Diagram) (ns : List ℕ) (n : ℕ) → IsSound d → AreLive d ns → IsLive d n → line_of (length d.order) d.order (functions d ns) (function_of d n) ≡ line_in d ns n
line_is d ns n s live (inl lt) = line_small d ns n s lt ∙ ap (parts_line ns) (sym (s.diagram.ground n lt))
line_is d ns n s live (inr h) = line_parts d ns n h.parts s live h.is ∙ ap (parts_line ns) (sym h.is)

pub lines_are : (d : Diagram) (ns ms : List ℕ) → IsSound d → AreLive d ns → AreLive d ms → flat_map node_text (map (line_of (length d.order) d.order (functions d ns)) (functions d ms)) ≡ lines_text d ns ms
lines_are d ns [] s live here = refl
lines_are d ns (m ∷ ms) s live here =
    ap (λ l. node_text l ++ flat_map node_text (map (line_of (length d.order) d.order (functions d ns)) (functions d ms))) (line_is d ns m s live (live_head d m ms here))
    ∙ ap (λ t. node_text (line_in d ns m) ++ t) (lines_are d ns ms s live (live_tail d m ms here))
