-- The gates that are built in: their kinds, and what their calls come to.
use Rattle.std.proofs.Common.{◌≡◌, ◌∙◌, sym, ap, refl, subst, ◌≤◌, ℕ, zero, suc, ◌-◌, Bool, true, false, cond, nat_eq, nat_le, List, [], ◌∷◌, replicate, Option, Some, None, option_map, arith}
use Rattle.std.specs.List.{AllByRecursion}
use Rattle.std.specs.Option.{option_map_or}
use Rattle.std.specs.Str.{bytes_eq}
use Rattle.std.specs.Map.{lookup}
use Rattle.std.proofs.lemmas.Option.{same_Some}
use Rattle.gate_set.specs.declared.kind.Kind.{Kind}
use Rattle.gate_set.specs.declared.kind.Kind.TheVariants.{Id, Phase}
use Rattle.gate_set.specs.Matrix.{arity_of, IsKind}
use Rattle.qasm_lex.specs.Fractions.{Ratio}
use Rattle.qasm_gates.specs.Gates.{Item, Base, Builtin, gate, turn, phase, own, bases, plainly, with_control, based, builtin, base_arity, one, turns, Gives, plain, turned, phased}

-- what holds of each value of a table holds of the one that is found
pub found_holds : {K X : Type 0} (P : X → Type 0) (test : K → Bool) (es : List (K × X)) (x : X) → AllByRecursion (λ e. P e.1) es → lookup test es ≡ Some x → P x
found_holds P test [] x a e = absurd cc
found_holds P test (k ∷ es) x a e = by (test k.0) e (found_holds P test es x a.1)
  where
    by : (b : Bool) → cond b (Some k.1) (lookup test es) ≡ Some x → (lookup test es ≡ Some x → P x) → P x
    by true e more = subst P (same_Some k.1 x e) a.0
    by false e more = more e

-- a base's kinds are kinds, and those of a turn are on one qubit
abbrev pub IsSound : Base → Type 0
IsSound (gate kind) = IsKind kind
IsSound (turn forth back) = (arity_of forth ≡ 1) × (arity_of back ≡ 1) × IsKind forth × IsKind back
IsSound phase = Unit {0}

own_sound : AllByRecursion (λ e. IsSound e.1) own
own_sound = (tt, (tt, (tt, (tt, (tt, tt)))))

bases_sound : AllByRecursion (λ e. IsSound e.1) bases
bases_sound = (tt, (tt, (tt, (tt, (tt, (tt, (tt, (tt, ((refl, refl, tt, tt), ((refl, refl, tt, tt), (tt, (tt, tt))))))))))))

-- the gate of a name has a sound base and at most so many further controls
pub record IsFit (n : ℕ) (called : Builtin) : Type 0 where
  pub few : called.controls ≤ n
  pub base : IsSound called.base

plain_fit : (n : ℕ) (called : Builtin) (x : Option Base) → ((b : Base) → x ≡ Some b → IsSound b) → option_map plainly x ≡ Some called → IsFit n called
plain_fit n called None h e = absurd cc
plain_fit n called (Some b) h e = subst (IsFit n) (same_Some (plainly b) called e) (record { few = omega arith; base = h b refl })

control_fit : (n : ℕ) (called : Builtin) (x : Option Builtin) → ((c : Builtin) → x ≡ Some c → IsFit n c) → option_map with_control x ≡ Some called → IsFit (suc n) called
control_fit n called None h e = absurd cc
control_fit n called (Some c) h e =
    let f = h c refl in let few = f.few in subst (IsFit (suc n)) (same_Some (with_control c) called e) (record { few = omega arith; base = f.base })

base_fit : (n : ℕ) (name : List ℕ) (called : Builtin) → option_map plainly (lookup (bytes_eq name) bases) ≡ Some called → IsFit n called
base_fit n name called e = plain_fit n called (lookup (bytes_eq name) bases) (λ b. found_holds IsSound (bytes_eq name) bases b bases_sound) e

based_fit : (n : ℕ) (name : List ℕ) (called : Builtin) → based n name ≡ Some called → IsFit n called
unfolding based
based_fit zero name called e = base_fit 0 name called e
based_fit (suc n) [] called e = absurd cc
based_fit (suc n) (b ∷ name) called e = by (nat_eq b 99) e (λ c. based_fit n name c)
  where
    by : (t : Bool) → cond t (option_map with_control (based n name)) (option_map plainly (lookup (bytes_eq (b ∷ name)) bases)) ≡ Some called → ((c : Builtin) → based n name ≡ Some c → IsFit n c) → IsFit (suc n) called
    by true e more = control_fit n called (based n name) more e
    by false e more = base_fit (suc n) (b ∷ name) called e

pub named_fit : (name : List ℕ) (called : Builtin) → builtin name ≡ Some called → IsFit 8 called
unfolding builtin
named_fit name called e = by (lookup (bytes_eq name) own) (λ b. found_holds IsSound (bytes_eq name) own b own_sound) e
  where
    by : (x : Option Base) → ((b : Base) → x ≡ Some b → IsSound b) → option_map_or (λ b. Some (plainly b)) x (based 8 name) ≡ Some called → IsFit 8 called
    by None h e = based_fit 8 name called e
    by (Some b) h e = plain_fit 8 called (Some b) h e

pub named_few : (name : List ℕ) (called : Builtin) → builtin name ≡ Some called → called.controls ≤ 8
named_few name called e = (named_fit name called e).few

pub named_kind : (name : List ℕ) (called : Builtin) (kind : Kind) → builtin name ≡ Some called → called.base ≡ gate kind → IsKind kind
named_kind name called kind e b = subst IsSound b (named_fit name called e).base

pub named_turn : (name : List ℕ) (called : Builtin) (forth back : Kind) → builtin name ≡ Some called → called.base ≡ turn forth back → (arity_of forth ≡ 1) × (arity_of back ≡ 1) × IsKind forth × IsKind back
named_turn name called forth back e b = subst IsSound b (named_fit name called e).base

-- what a call does at each place is gates of one kind, with the further controls of its name, on as many qubits as its base has
pub record Body (called : Builtin) (items : List Item) : Type 0 where
  pub kind : Kind
  pub times : ℕ
  pub are : items ≡ replicate times (one called.controls kind)
  pub on : arity_of kind ≡ base_arity called.base
  pub power : IsKind kind

module _ (called : Builtin) (sound : IsSound called.base) where
  turns_body : (forth back : Kind) (m : ℕ) → called.base ≡ turn forth back → Body called (turns called.controls forth back m)
  turns_body forth back m e = by (nat_eq m 0) refl (nat_le m 4) refl
    where
      n : ℕ
      n = called.controls

      both : (arity_of forth ≡ 1) × (arity_of back ≡ 1) × IsKind forth × IsKind back
      both = subst IsSound e sound

      one_qubit : base_arity called.base ≡ 1
      one_qubit = ap base_arity e

      many : nat_eq m 0 ≡ false → turns n forth back m ≡ cond (nat_le m 4) (replicate m (one n forth)) (replicate (8 - m) (one n back))
      many x = ap (λ z. cond z (one n Id ∷ []) (cond (nat_le m 4) (replicate m (one n forth)) (replicate (8 - m) (one n back)))) x

      by : (x : Bool) → nat_eq m 0 ≡ x → (y : Bool) → nat_le m 4 ≡ y → Body called (turns n forth back m)
      by true x y g = record { kind = Id; times = 1; are = ap (λ z. cond z (one n Id ∷ []) (cond (nat_le m 4) (replicate m (one n forth)) (replicate (8 - m) (one n back)))) x; on = sym one_qubit; power = tt }
      by false x true g = record { kind = forth; times = m; are = many x ∙ ap (λ z. cond z (replicate m (one n forth)) (replicate (8 - m) (one n back))) g; on = both.0 ∙ sym one_qubit; power = both.2 }
      by false x false g = record { kind = back; times = 8 - m; are = many x ∙ ap (λ z. cond z (replicate m (one n forth)) (replicate (8 - m) (one n back))) g; on = both.1 ∙ sym one_qubit; power = both.3 }

  pub gives_body : (values : List Ratio) (items : List Item) → Gives called values items → Body called items
  gives_body values items (plain kind n v i) = record { kind = kind; times = 1; are = i; on = sym (ap base_arity n); power = subst IsSound n sound }
  gives_body values items (turned forth back f m n v q i) = subst (Body called) (sym i) (turns_body forth back m n)
  gives_body values items (phased f m n v q i) = let b = q.below in record { kind = Phase m; times = 1; are = i; on = sym (ap base_arity n); power = omega arith }
