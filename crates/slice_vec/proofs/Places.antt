-- One place of a sum, by connectives.
use Rattle.std.proofs.Common.{◌≡◌, ◌≤◌, ℕ, Bool, true, false, cond, List, Result, Ok, Err, IfOk, IfErr, OnErr, inl, inr, refl, sym, ◌∙◌, ap, arith, length}
use Rattle.std.specs.Prelude.{◌&&◌, not}
use mathlib.Core.Path.{fun_ext}
use Rattle.node_store.specs.declared.node.Node.{Node}
use Rattle.node_store.specs.declared.node.StoreStop.{StoreStop}
use Rattle.computed_cache.specs.declared.key.Key.{Key}
use Rattle.computed_cache.specs.Entries.{Cached}
use Rattle.diagram_model.specs.Functions.{Assignment, Function, IsPrefixOf}
use Rattle.diagram_model.specs.Stores.{Diagram, IsLive, IsSound, Extends, KeepsFunctions, function_of}
use Rattle.diagram_model.proofs.Growing.{function_on}
use Rattle.diagram_model.proofs.Values.{value-small}
use Rattle.diagram_ops.specs.Connectives.{connective, connected}
use Rattle.diagram_ops.specs.Diagrams.{StoreAndCache, IsConsistent, with_answer}
use Rattle.diagram_ops.specs.Made.{Property, MakesOnly, StopIs}
use Rattle.diagram_ops.proofs.Right.{after_capacity}
use Rattle.slice_vec.specs.declared.place.Pair.{Pair}
use Rattle.slice_vec.specs.Digits.{majority_bit, odd_bit, majority, odd, less, choice}
use Rattle.slice_vec.specs.Growing.{Grows, Denotes}
use Rattle.slice_vec.specs.Places.{IsPair, odd_at, majority_at, less_at, choice_at}
use Rattle.diagram_ops.proofs.Cases.{of_three, of_two}

-- the tables
odd_table : (a b c : Bool) → connective 150 a b c ≡ odd_bit a b c
unfolding connective
odd_table = of_three (λ a b c. connective 150 a b c ≡ odd_bit a b c) refl refl refl refl refl refl refl refl

majority_table : (a b c : Bool) → connective 232 a b c ≡ majority_bit a b c
unfolding connective
majority_table = of_three (λ a b c. connective 232 a b c ≡ majority_bit a b c) refl refl refl refl refl refl refl refl

pub connected-odd : (f g h : Function) → connected 150 f g h ≡ odd f g h
unfolding connected odd
connected-odd f g h = fun_ext (λ x. odd_table (f x) (g x) (h x))

pub connected-majority : (f g h : Function) → connected 232 f g h ≡ majority f g h
unfolding connected majority
connected-majority f g h = fun_ext (λ x. majority_table (f x) (g x) (h x))

-- a call of a connective, by another name of its function
pub call_grows : (v w : StoreAndCache) (k : Key) (o : Result Node StoreStop) (f r : Function) → f ≡ r → IsConsistent w → Extends v.store w.store → KeepsFunctions v.store w.store → IfOk o (λ n. w.cache ≡ with_answer v.cache k n.0) → OnErr o (w.cache ≡ v.cache) → length v.cache.entries ≤ length w.cache.entries → MakesOnly v.store w.store (IsPrefixOf v.store.order f) → Grows v (IsPrefixOf v.store.order r) w
call_grows v w k o f r same sound extends functions cache stopped cached made = rw (sym same) (record { sound = sound; extends = extends; functions = functions; capacity = after_capacity v.cache w.cache k o cache stopped; cached = cached; made = made })

-- a call that leaves the cache as it was
pub keeping_grows : (v w : StoreAndCache) (Is : Property) → IsConsistent w → Extends v.store w.store → KeepsFunctions v.store w.store → w.cache ≡ v.cache → MakesOnly v.store w.store Is → Grows v Is w
keeping_grows v w Is sound extends functions cache made = record {
  sound = sound;
  extends = extends;
  functions = functions;
  capacity = ap (λ (c : Cached). c.capacity) cache;
  cached = omega (arith, ap (λ (c : Cached). length c.entries) cache);
  made = made;
}

pub call_node : (d : Diagram) (f r : Function) (o : Result Node StoreStop) → f ≡ r → IfOk o (λ n. IsLive d n.0) → IfOk o (λ n. function_of d n.0 ≡ f) → IfOk o (λ n. Denotes d n.0 r)
call_node d f r (Ok n) same live denotes = record { live = live; is = denotes ∙ same }
call_node d f r (Err e) same live denotes = tt

pub call_stop : (d : Diagram) (vs : List ℕ) (f r : Function) (o : Result Node StoreStop) → f ≡ r → IfErr o (StopIs d (IsPrefixOf vs f)) → IfErr o (StopIs d (IsPrefixOf vs r))
call_stop d vs f r o same stop = rw (sym same) stop

-- two of three are one
odd_first : (a c : Bool) → odd_bit a a c ≡ c
odd_first = of_two (λ a c. odd_bit a a c ≡ c) refl refl refl refl

odd_outer : (a b : Bool) → odd_bit a b a ≡ b
odd_outer = of_two (λ a b. odd_bit a b a ≡ b) refl refl refl refl

odd_last : (a b : Bool) → odd_bit a b b ≡ a
odd_last = of_two (λ a b. odd_bit a b b ≡ a) refl refl refl refl

majority_first : (a c : Bool) → majority_bit a a c ≡ a
majority_first = of_two (λ a c. majority_bit a a c ≡ a) refl refl refl refl

majority_outer : (a b : Bool) → majority_bit a b a ≡ a
majority_outer = of_two (λ a b. majority_bit a b a ≡ a) refl refl refl refl

majority_last : (a b : Bool) → majority_bit a b b ≡ b
majority_last = of_two (λ a b. majority_bit a b b ≡ b) refl refl refl refl

pub pair_odd : (d : Diagram) (a b c : ℕ) (p : Pair) → IsLive d a → IsLive d b → IsLive d c → IsPair a b c p → Denotes d p.third.0 (odd_at d a b c)
unfolding odd
pair_odd d a b c p la lb lc (inl h) = record { live = rw h.2 lc; is = ap (function_of d) h.2 ∙ sym (fun_ext (λ x. ap (λ k. odd_bit (function_of d a x) (function_of d k x) (function_of d c x)) (sym h.0) ∙ odd_first (function_of d a x) (function_of d c x))) }
pair_odd d a b c p la lb lc (inr (inl h)) = record { live = rw h.2 lb; is = ap (function_of d) h.2 ∙ sym (fun_ext (λ x. ap (λ k. odd_bit (function_of d a x) (function_of d b x) (function_of d k x)) (sym h.0) ∙ odd_outer (function_of d a x) (function_of d b x))) }
pair_odd d a b c p la lb lc (inr (inr h)) = record { live = rw h.2 la; is = ap (function_of d) h.2 ∙ sym (fun_ext (λ x. ap (λ k. odd_bit (function_of d a x) (function_of d b x) (function_of d k x)) (sym h.0) ∙ odd_last (function_of d a x) (function_of d b x))) }

pub pair_majority : (d : Diagram) (a b c : ℕ) (p : Pair) → IsLive d a → IsLive d b → IsLive d c → IsPair a b c p → Denotes d p.twice.0 (majority_at d a b c)
unfolding majority
pair_majority d a b c p la lb lc (inl h) = record { live = rw h.1 la; is = ap (function_of d) h.1 ∙ sym (fun_ext (λ x. ap (λ k. majority_bit (function_of d a x) (function_of d k x) (function_of d c x)) (sym h.0) ∙ majority_first (function_of d a x) (function_of d c x))) }
pair_majority d a b c p la lb lc (inr (inl h)) = record { live = rw h.1 la; is = ap (function_of d) h.1 ∙ sym (fun_ext (λ x. ap (λ k. majority_bit (function_of d a x) (function_of d b x) (function_of d k x)) (sym h.0) ∙ majority_outer (function_of d a x) (function_of d b x))) }
pair_majority d a b c p la lb lc (inr (inr h)) = record { live = rw h.1 lb; is = ap (function_of d) h.1 ∙ sym (fun_ext (λ x. ap (λ k. majority_bit (function_of d a x) (function_of d b x) (function_of d k x)) (sym h.0) ∙ majority_last (function_of d a x) (function_of d b x))) }

-- functions by other names
pub odd_same : (f g h f2 g2 h2 : Function) → f ≡ f2 → g ≡ g2 → h ≡ h2 → odd f g h ≡ odd f2 g2 h2
odd_same f g h f2 g2 h2 ef eg eh = ap (λ (w : Function). odd w g h) ef ∙ ap (λ (w : Function). odd f2 w h) eg ∙ ap (λ (w : Function). odd f2 g2 w) eh

pub majority_same : (f g h f2 g2 h2 : Function) → f ≡ f2 → g ≡ g2 → h ≡ h2 → majority f g h ≡ majority f2 g2 h2
majority_same f g h f2 g2 h2 ef eg eh = ap (λ (w : Function). majority w g h) ef ∙ ap (λ (w : Function). majority f2 w h) eg ∙ ap (λ (w : Function). majority f2 g2 w) eh

-- the constants
pub false_function : (d : Diagram) → IsSound d → function_of d 0 ≡ (λ x. false)
unfolding function_of
false_function d s = fun_ext (λ x. value-small d.slots (length d.order) d.order 0 s.diagram (omega arith) x)

pub true_function : (d : Diagram) → IsSound d → function_of d 1 ≡ (λ x. true)
unfolding function_of
true_function d s = fun_ext (λ x. value-small d.slots (length d.order) d.order 1 s.diagram (omega arith) x)

pub majority_on : (v w : StoreAndCache) (Is : Property) (a b c : ℕ) → IsConsistent v → Grows v Is w → IsLive v.store a → IsLive v.store b → IsLive v.store c → majority_at w.store a b c ≡ majority_at v.store a b c
majority_on v w Is a b c s g la lb lc =
    let on = λ (n : ℕ) (live : IsLive v.store n). function_on v.store w.store n s.store g.sound.store g.extends live in
    majority_same (function_of w.store a) (function_of w.store b) (function_of w.store c) (function_of v.store a) (function_of v.store b) (function_of v.store c) (on a la) (on b lb) (on c lc)

-- one where another isn't
less_table : (a b : Bool) → connective 48 a b false ≡ (a && not b)
unfolding connective
less_table = of_two (λ a b. connective 48 a b false ≡ (a && not b)) refl refl refl refl

pub connected-less : (d : Diagram) (f g : ℕ) → IsSound d → connected 48 (function_of d f) (function_of d g) (function_of d 0) ≡ less_at d f g
unfolding connected less
connected-less d f g s =
    ap (λ (h : Function). connected 48 (function_of d f) (function_of d g) h) (false_function d s)
    ∙ fun_ext (λ x. less_table (function_of d f x) (function_of d g x))

pub less_same : (f g f2 g2 : Function) → f ≡ f2 → g ≡ g2 → less f g ≡ less f2 g2
less_same f g f2 g2 ef eg = ap (λ (w : Function). less w g) ef ∙ ap (λ (w : Function). less f2 w) eg

pub less_on : (v w : StoreAndCache) (Is : Property) (f g : ℕ) → IsConsistent v → Grows v Is w → IsLive v.store f → IsLive v.store g → less_at w.store f g ≡ less_at v.store f g
less_on v w Is f g s h lf lg =
    let on = λ (n : ℕ) (live : IsLive v.store n). function_on v.store w.store n s.store h.sound.store h.extends live in
    less_same (function_of w.store f) (function_of w.store g) (function_of v.store f) (function_of v.store g) (on f lf) (on g lg)

less_kept : (a : Bool) → a ≡ (a && not false)
less_kept true = refl
less_kept false = refl

pub less_none : (d : Diagram) (f g : ℕ) → IsSound d → IsLive d f → f ≡ 0 → Denotes d f (less_at d f g)
unfolding less
less_none d f g s live e =
    let off : function_of d f ≡ (λ x. false) = ap (function_of d) e ∙ false_function d s in
    record { live = live; is = off ∙ sym (ap (λ (h : Function). less h (function_of d g)) off) }

pub less_all : (d : Diagram) (f g : ℕ) → IsSound d → IsLive d f → g ≡ 0 → Denotes d f (less_at d f g)
unfolding less
less_all d f g s live e =
    let off : function_of d g ≡ (λ x. false) = ap (function_of d) e ∙ false_function d s in
    record { live = live; is = fun_ext (λ x. less_kept (function_of d f x)) ∙ sym (ap (λ (h : Function). less (function_of d f) h) off) }

-- the table of a choice
choice_table : (n a b : Bool) → connective 202 n a b ≡ cond n a b
unfolding connective
choice_table = of_three (λ n a b. connective 202 n a b ≡ cond n a b) refl refl refl refl refl refl refl refl

pub connected-choice : (f g h : Function) → connected 202 f g h ≡ choice f g h
unfolding connected choice
connected-choice f g h = fun_ext (λ x. choice_table (f x) (g x) (h x))

choice_either : (n a : Bool) → cond n a a ≡ a
choice_either true a = refl
choice_either false a = refl

pub choice_same : (d : Diagram) (n a b : ℕ) → IsLive d a → a ≡ b → Denotes d a (choice_at d n a b)
unfolding choice
choice_same d n a b live e = record {
  live = live;
  is = sym (fun_ext (λ x. ap (λ k. cond (function_of d n x) (function_of d a x) (function_of d k x)) (sym e) ∙ choice_either (function_of d n x) (function_of d a x)));
}

at_point : (f g : Function) (x : Assignment) → f ≡ g → f x ≡ g x
at_point f g x e = ap (λ (w : Function). w x) e

pub choice_true : (d : Diagram) (n a b : ℕ) → IsSound d → IsLive d a → n ≡ 1 → Denotes d a (choice_at d n a b)
unfolding choice
choice_true d n a b s live e =
    let on : function_of d n ≡ (λ x. true) = ap (function_of d) e ∙ true_function d s in
    record { live = live; is = sym (fun_ext (λ x. ap (λ t. cond t (function_of d a x) (function_of d b x)) (at_point (function_of d n) (λ y. true) x on))) }

pub choice_false : (d : Diagram) (n a b : ℕ) → IsSound d → IsLive d b → n ≡ 0 → Denotes d b (choice_at d n a b)
unfolding choice
choice_false d n a b s live e =
    let off : function_of d n ≡ (λ x. false) = ap (function_of d) e ∙ false_function d s in
    record { live = live; is = sym (fun_ext (λ x. ap (λ t. cond t (function_of d a x) (function_of d b x)) (at_point (function_of d n) (λ y. false) x off))) }
