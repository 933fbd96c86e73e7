-- Gates by name, in the map and in the list.
use Rattle.std.proofs.Common.{◌≡◌, ◌∙◌, sym, ap, refl, subst, ◌<◌, ℕ, ◌+◌, Bool, true, false, cond, List, [], ◌∷◌, ◌++◌, length, map, get_or, All, Option, Some, None, option_map, Result, Ok, Err, OnOk, arith, length-append}
use Rattle.std.specs.Str.{bytes_eq}
use Rattle.std.specs.Borrow.{Bor}
use Rattle.std.specs.Map.{lookup}
use Rattle.std.specs.Option.{option_or}
use Rattle.std.proofs.lemmas.Option.{same_Some}
use Rattle.std.proofs.lemmas.List.{map-append, get_or_append_left}
use Rattle.std.proofs.lemmas.List.Elements.{All-head, All-tail, All-push}
use Rattle.std.proofs.Math.Seq.{get_or-append_seam}
use Rattle.indexmap.specs.IndexMap.{IndexMap}
use Rattle.qasm_gates.specs.declared.gates.Gates.{Gates}
use Rattle.qasm_gates.specs.declared.hashing.KeyedNames.{KeyedNames}
use Rattle.qasm_gates.specs.declared.table.Callee.{Callee}
use Rattle.qasm_gates.specs.declared.table.Table.{Table}
use Rattle.qasm_gates.specs.Gates.{Builtin, Named, builtin, builtin_gate, gate_in}
use Rattle.qasm_gates.specs.Private.Tables.{store_of, nothing, callee_arity, callee_angles, IsCallee, Shown, shown, Becomes}
use Rattle.qasm_gates.specs.Private.Views.{View, entry_of, view_of, IsGates, IsKnown, callee_gate, Shows}
use Rattle.qasm_gates.proofs.Rows.{gates_length}
use Rattle.qasm_gates.proofs.Good.{callee_counted, callee_params, all_good}

cond_map : (b : Bool) (gates : List Named) (i : ℕ) (x : Option ℕ) → option_map (λ i. get_or gates i nothing) (cond b (Some i) x) ≡ cond b (Some (get_or gates i nothing)) (option_map (λ i. get_or gates i nothing) x)
cond_map true gates i x = refl
cond_map false gates i x = refl

-- the gate of the number of a name
pub lookup_gate : (gates : List Named) (name : List ℕ) (es : List (Bor (List ℕ) × ℕ))
    → option_map (λ i. get_or gates i nothing) (lookup (λ (k : Bor (List ℕ)). bytes_eq name k.now) es) ≡ lookup (bytes_eq name) (map (entry_of gates) es)
lookup_gate gates name [] = refl
lookup_gate gates name (e ∷ es) =
    cond_map (bytes_eq name e.0.now) gates e.1 (lookup (λ (k : Bor (List ℕ)). bytes_eq name k.now) es)
    ∙ ap (cond (bytes_eq name e.0.now) (Some (get_or gates e.1 nothing))) (lookup_gate gates name es)

-- a name that isn't built in has the gate of its number
pub defined_gate : (gates : List Named) (name : List ℕ) (es : List (Bor (List ℕ) × ℕ)) (x : Option ℕ) → builtin name ≡ None → x ≡ lookup (λ (k : Bor (List ℕ)). bytes_eq name k.now) es
    → gate_in (map (entry_of gates) es) name ≡ option_map (λ i. get_or gates i nothing) x
defined_gate gates name es x e q =
    ap (λ b. option_or (option_map builtin_gate b) (lookup (bytes_eq name) (map (entry_of gates) es))) e ∙ sym (lookup_gate gates name es) ∙ ap (option_map (λ i. get_or gates i nothing)) (sym q)

-- a number that is found is one of a gate
pub number_known : (n : ℕ) (name : List ℕ) (es : List (Bor (List ℕ) × ℕ)) (i : ℕ) → All (λ (e : Bor (List ℕ) × ℕ). e.1 < n) es → lookup (λ (k : Bor (List ℕ)). bytes_eq name k.now) es ≡ Some i → i < n
number_known n name [] i a e = absurd cc
number_known n name (x ∷ es) i a e = by (bytes_eq name x.0.now) e (number_known n name es i (All-tail (λ (e : Bor (List ℕ) × ℕ). e.1 < n) x es a))
  where
    by : (b : Bool) → cond b (Some x.1) (lookup (λ (k : Bor (List ℕ)). bytes_eq name k.now) es) ≡ Some i → (lookup (λ (k : Bor (List ℕ)). bytes_eq name k.now) es ≡ Some i → i < n) → i < n
    by true e more = subst (λ k. k < n) (same_Some x.1 i e) (All-head (λ (e : Bor (List ℕ) × ℕ). e.1 < n) x es a)
    by false e more = more e

-- a name that has no gate has no number
pub no_number : (gates : List Named) (name : List ℕ) (es : List (Bor (List ℕ) × ℕ)) → gate_in (map (entry_of gates) es) name ≡ None → lookup (λ (k : Bor (List ℕ)). bytes_eq name k.now) es ≡ None
no_number gates name es e = by (builtin name) (lookup (λ (k : Bor (List ℕ)). bytes_eq name k.now) es) (ap (option_or (option_map builtin_gate (builtin name))) (lookup_gate gates name es) ∙ e)
  where
    by : (b : Option Builtin) (x : Option ℕ) → option_or (option_map builtin_gate b) (option_map (λ i. get_or gates i nothing) x) ≡ None → x ≡ None
    by None None e = refl
    by None (Some i) e = absurd cc
    by (Some b) x e = absurd cc

entry_kept : (gates : List Named) (g : Named) (es : List (Bor (List ℕ) × ℕ)) → All (λ (e : Bor (List ℕ) × ℕ). e.1 < length gates) es → map (entry_of (gates ++ g ∷ [])) es ≡ map (entry_of gates) es
entry_kept gates g [] a = refl
entry_kept gates g (e ∷ es) a =
    ap (λ x. (e.0.now, x) ∷ map (entry_of (gates ++ g ∷ [])) es) (get_or_append_left gates (g ∷ []) nothing e.1 (All-head (λ (e : Bor (List ℕ) × ℕ). e.1 < length gates) e es a))
    ∙ ap (λ xs. entry_of gates e ∷ xs) (entry_kept gates g es (All-tail (λ (e : Bor (List ℕ) × ℕ). e.1 < length gates) e es a))

-- one name more
pub entries_more : (gates : List Named) (g : Named) (es : List (Bor (List ℕ) × ℕ)) (name : Bor (List ℕ)) (n : ℕ) → All (λ (e : Bor (List ℕ) × ℕ). e.1 < length gates) es → n ≡ length gates
    → map (entry_of (gates ++ g ∷ [])) (es ++ (name, n) ∷ []) ≡ map (entry_of gates) es ++ (name.now, g) ∷ []
entries_more gates g es name n a e =
    map-append (entry_of (gates ++ g ∷ [])) es ((name, n) ∷ []) ∙ ap (λ xs. xs ++ entry_of (gates ++ g ∷ []) (name, n) ∷ []) (entry_kept gates g es a)
    ∙ ap (λ x. map (entry_of gates) es ++ (name.now, x) ∷ []) (ap (λ k. get_or (gates ++ g ∷ []) k nothing) e ∙ get_or-append_seam gates g [] nothing)

pub on_ok : {T E X Y : Type 0} (r : Result T E) → (X → Y) → OnOk r X → OnOk r Y
on_ok (Ok t) f x = f x
on_ok (Err e) f x = tt

module _ (g : Gates) (h : IsGates g) where
  pub as_many : length (shown g.table).gates ≡ length g.table.rows.items
  as_many = gates_length (store_of g.table)

  known_gate : (c : Callee) → IsKnown g c → IsCallee (length (shown g.table).gates) c
  known_gate c k = subst (λ n. IsCallee n c) (sym as_many) k

  -- how many arguments and angles a gate has
  pub known_arity : (c : Callee) → IsKnown g c → callee_arity g.table.rows.items c ≡ (callee_gate g c).arity
  known_arity c k = callee_counted (store_of g.table) (shown g.table).gates c (all_good (store_of g.table) h.table.store) (known_gate c k)

  pub known_angles : (c : Callee) → IsKnown g c → callee_angles g.table.rows.items c ≡ (callee_gate g c).angles
  known_angles c k = callee_params (store_of g.table) (shown g.table).gates c (all_good (store_of g.table) h.table.store) (known_gate c k)

  -- what the table shows, with the names
  pub names_kept : (t : Table) (v : Shown) → Becomes t v → v.gates ≡ (shown g.table).gates
      → Shows (record { names = g.names; table = t }) (record { definitions = (view_of g).definitions; body = v.body; angles = v.angles; on = v.on })
  names_kept t v b e =
      let same : length g.table.rows.items ≡ length t.rows.items = sym as_many ∙ ap length (sym e) ∙ ap (λ (s : Shown). length s.gates) (sym b.shows) ∙ gates_length (store_of t) in
      let view = λ (gates : List Named) (s : Shown). (let v : View = record { definitions = map (entry_of gates) g.names.entries; body = s.body; angles = s.angles; on = s.on } in v) in
      record {
        sound = record { table = b.sound; numbered = subst (λ n. All (λ (e : Bor (List ℕ) × ℕ). e.1 < n) g.names.entries) same h.numbered };
        shows = ap (λ (s : Shown). view s.gates s) b.shows ∙ ap (λ gates. view gates v) e;
      }

  -- a name more
  pub name_added : (names : IndexMap (Bor (List ℕ)) ℕ KeyedNames) (t : Table) (name : Bor (List ℕ)) (n : ℕ) (gate : Named) → names.entries ≡ g.names.entries ++ (name, n) ∷ [] → n ≡ length g.table.rows.items
      → Becomes t (record { gates = (shown g.table).gates ++ gate ∷ []; body = []; angles = []; on = [] })
      → Shows (record { names = names; table = t }) (record { definitions = (view_of g).definitions ++ (name.now, gate) ∷ []; body = []; angles = []; on = [] })
  name_added names t name n gate e m b =
      let gates = (shown g.table).gates in
      let more : length t.rows.items ≡ length gates + 1 = sym (gates_length (store_of t)) ∙ ap (λ (s : Shown). length s.gates) b.shows ∙ length-append gates (gate ∷ []) in
      let many = as_many in
      let view = λ (definitions : List (List ℕ × Named)) (s : Shown). (let v : View = record { definitions = definitions; body = s.body; angles = s.angles; on = s.on } in v) in
      let none : Shown = record { gates = gates ++ gate ∷ []; body = []; angles = []; on = [] } in
      record {
        sound = record {
          table = b.sound;
          numbered = subst (All (λ (e : Bor (List ℕ) × ℕ). e.1 < length t.rows.items)) (sym e)
              (All-push (λ (e : Bor (List ℕ) × ℕ). e.1 < length t.rows.items) g.names.entries (name, n) (λ k d l. (let b = h.numbered k d l in omega arith)) (omega arith));
        };
        shows = ap (λ (s : Shown). view (map (entry_of s.gates) names.entries) s) b.shows
            ∙ ap (λ es. view (map (entry_of (gates ++ gate ∷ [])) es) none) e
            ∙ ap (λ d. view d none) (entries_more gates gate g.names.entries name n (subst (λ n. All (λ (e : Bor (List ℕ) × ℕ). e.1 < n) g.names.entries) (sym many) h.numbered) (m ∙ sym many));
      }
