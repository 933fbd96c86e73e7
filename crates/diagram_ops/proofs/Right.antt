-- The entries of a cache stay right.
use Rattle.std.proofs.Common.{◌≡◌, ℕ, zero, suc, ◌-◌, Bool, true, false, cond, ◌≤◌, length, List, [], ◌∷◌, take, Result, Ok, Err, IfOk, OnErr, Option, Some, None, is_some, inl, inr, refl, sym, ◌∙◌, ap}
use Rattle.std.specs.Option.{option_map_or}
use Rattle.std.specs.List.{AllByRecursion}
use Rattle.std.proofs.lemmas.Bool.{cases_Bool, cond-true, cond-false}
use Rattle.std.proofs.lemmas.List.Elements.{All-from_recursion, recursion_from_All}
use Rattle.computed_cache.specs.declared.key.Key.{Key}
use Rattle.computed_cache.specs.Entries.{Cached, same_key, value_at, without, touched, kept}
use Rattle.computed_cache.proofs.Puts.{same_is}
use Rattle.diagram_model.specs.Stores.{Diagram, IsSound, Extends}
use Rattle.diagram_model.proofs.Growing.{live_on, function_on}
use Rattle.diagram_ops.specs.Connectives.{connected}
use Rattle.node_store.specs.declared.node.Node.{Node}
use Rattle.node_store.specs.declared.node.StoreStop.{StoreStop}
use Rattle.diagram_ops.specs.Diagrams.{AreRight, IsRight, with_answer}
use Rattle.diagram_ops.proofs.Calls.{some_number}
use Rattle.diagram_ops.proofs.Results.{result_on}
use Rattle.diagram_ops.proofs.Splits.{three}

abbrev Each : Diagram → List (Key × ℕ) → Type 0
Each d es = AllByRecursion (IsRight d) es

right_on : (d e : Diagram) (k : Key × ℕ) → IsSound d → IsSound e → Extends d e → IsRight d k → IsRight e k
right_on d e k sd se ext r = record {
  f = live_on d e k.0.f ext r.f;
  g = live_on d e k.0.g ext r.g;
  h = live_on d e k.0.h ext r.h;
  value = live_on d e k.1 ext r.value;
  denotes = function_on d e k.1 sd se ext r.value ∙ r.denotes ∙ sym (result_on (connected k.0.table) d e (three k.0.f k.0.g k.0.h) sd se ext (r.f, r.g, r.h));
}

each_on : (d e : Diagram) (es : List (Key × ℕ)) → IsSound d → IsSound e → Extends d e → Each d es → Each e es
each_on d e [] sd se ext all = all
each_on d e (k ∷ es) sd se ext all = (right_on d e k sd se ext all.0, each_on d e es sd se ext all.1)

each_take : (d : Diagram) (n : ℕ) (es : List (Key × ℕ)) → Each d es → Each d (take n es)
each_take d zero es all = tt
each_take d (suc n) [] all = all
each_take d (suc n) (k ∷ es) all = (all.0, each_take d n es all.1)

each_same : (d : Diagram) (es fs : List (Key × ℕ)) → es ≡ fs → Each d fs → Each d es
each_same d es fs e all = rw e all

each_without : (d : Diagram) (k : Key) (es : List (Key × ℕ)) → Each d es → Each d (without es k)
each_without d k [] all = all
each_without d k (e ∷ es) all =
    elim (cases_Bool (same_key k e.0)) [
      | inl h ↦ each_same d (without (e ∷ es) k) es (cond-true (same_key k e.0) es (e ∷ without es k) h) all.1
      | inr h ↦ each_same d (without (e ∷ es) k) (e ∷ without es k) (cond-false (same_key k e.0) es (e ∷ without es k) h) (all.0, each_without d k es all.1)
    ]

abbrev pub entry : Key → ℕ → Key × ℕ
entry k n = (k, n)

each_found : (d : Diagram) (k : Key) (n : ℕ) (es : List (Key × ℕ)) → Each d es → value_at es k ≡ Some n → IsRight d (entry k n)
each_found d k n [] all is = absurd (cc)
each_found d k n (e ∷ es) all is =
    elim (cases_Bool (same_key k e.0)) [
      | inl h ↦
          let key : e.0 ≡ k = same_is k e.0 h in
          let value : e.1 ≡ n = some_number e.1 n (sym (cond-true (same_key k e.0) (Some e.1) (value_at es k) h) ∙ is) in
          let same : entry k n ≡ e = sym (ap (λ l. entry l e.1) key ∙ ap (entry k) value) in
          rw same all.0
      | inr h ↦ each_found d k n es all.1 (sym (cond-false (same_key k e.0) (Some e.1) (value_at es k) h) ∙ is)
    ]

each_touched : (d : Diagram) (k : Key) (es : List (Key × ℕ)) (o : Option ℕ) → value_at es k ≡ o → Each d es → Each d (option_map_or (λ v. entry k v ∷ without es k) o es)
each_touched d k es None is all = all
each_touched d k es (Some n) is all = (each_found d k n es all is, each_without d k es all)

each_cond : (d : Diagram) (b : Bool) (es fs : List (Key × ℕ)) → Each d es → Each d fs → Each d (cond b es fs)
each_cond d true es fs p q = p
each_cond d false es fs p q = q

-- the entries are right in a store that grew
pub grown_right : (d e : Diagram) (es : List (Key × ℕ)) → IsSound d → IsSound e → Extends d e → AreRight d es → AreRight e es
grown_right d e es sd se ext all = All-from_recursion (IsRight e) es (each_on d e es sd se ext (recursion_from_All (IsRight d) es all))

-- a value that is found is right
pub found_right : (d : Diagram) (k : Key) (n : ℕ) (es : List (Key × ℕ)) → AreRight d es → value_at es k ≡ Some n → IsRight d (entry k n)
found_right d k n es all is = each_found d k n es (recursion_from_All (IsRight d) es all) is

pub touched_right : (d : Diagram) (k : Key) (es : List (Key × ℕ)) → AreRight d es → AreRight d (touched es k)
touched_right d k es all = All-from_recursion (IsRight d) (touched es k) (each_touched d k es (value_at es k) refl (recursion_from_All (IsRight d) es all))

pub kept_right : (d : Diagram) (capacity : ℕ) (k : Key) (n : ℕ) (es : List (Key × ℕ)) → IsRight d (entry k n) → AreRight d es → AreRight d (kept capacity es k n)
kept_right d capacity k n es here all =
    let each = recursion_from_All (IsRight d) es all in
    All-from_recursion (IsRight d) (kept capacity es k n) (here, each_cond d (is_some (value_at es k)) (without es k) (take (capacity - 1) es) (each_without d k es each) (each_take d (capacity - 1) es each))

-- a cache by its entries and its capacity
pub cached_is : (c : Cached) (es : List (Key × ℕ)) (n : ℕ) → c.entries ≡ es → c.capacity ≡ n → c ≡ record { entries = es; capacity = n }
cached_is c es n e k =
    let build = λ (fs : List (Key × ℕ)) (m : ℕ). let r : Cached = record { entries = fs; capacity = m } in r in
    ap (λ fs. build fs c.capacity) e ∙ ap (build es) k

pub longer_as : (es fs gs : List (Key × ℕ)) → fs ≡ gs → length es ≤ length gs → length es ≤ length fs
longer_as es fs gs e h = rw e h

-- a call keeps the capacity
pub after_capacity : (old new : Cached) (k : Key) (o : Result Node StoreStop) → IfOk o (λ n. new ≡ with_answer old k n.0) → OnErr o (new ≡ old) → new.capacity ≡ old.capacity
after_capacity old new k (Ok n) put stop = ap (λ (c : Cached). c.capacity) put
after_capacity old new k (Err why) put stop = ap (λ (c : Cached). c.capacity) stop
