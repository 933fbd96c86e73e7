-- Whether two nodes differ, by their values once a variable is fixed.
use Rattle.std.proofs.Common.{◌≡◌, ◌≢◌, ◌⊎◌, ℕ, zero, suc, ◌+◌, ◌<◌, ◌≤◌, Bool, true, false, cond, eqb, ◌&&◌, List, [], ◌∷◌, length, Option, Some, None, get_or, inl, inr, refl, sym, ◌∙◌, ap, arith, eq-eqb}
use Rattle.std.specs.List.{list_any}
use Rattle.std.proofs.lemmas.Bool.{cases_Bool, cases_eq, cond-true, cond-false, eqb-true, ne_eqb, and_parts}
use Rattle.bit_lists.specs.Orders.{has}
use Rattle.bit_lists.specs.Partials.{fits}
use Rattle.bit_lists.proofs.Partials.{value_of, fits_some, agrees_at, agrees_all}
use Rattle.diagram_model.specs.Functions.{Assignment, Function, bit, put}
use Rattle.diagram_model.specs.Nodes.{value, follow, IsLiveIn}
use Rattle.diagram_model.specs.Stores.{Diagram, IsSound, IsLive, function_of, from, HasVariable, depth}
use Rattle.diagram_model.proofs.Fixing.{value_follow, follow_above, above_live, live_from_order, ignores_above, put_at, depth_follow, depth_falls}
use Rattle.diagram_model.proofs.Prefixes.{Ignores}
use Rattle.diagram_model.proofs.Values.{value-small, below-order}
use Rattle.diagram_model.proofs.Sizes.{walk-agree}
use Rattle.node_store.specs.Differs.{Differ, Coincide, IsTrueSomewhere, IsFalseThroughout}
use Rattle.node_store.specs.Pairs.{DifferAt, CoincideAt, AllCoincide, is_pair}

-- a value that is fixed to b alone, or free, fits b
fits_when : (o : Option Bool) (b : Bool) → ((c : Bool) → o ≡ Some c → b ≡ c) → fits o b ≡ true
fits_when None b h = refl
fits_when (Some true) b h = ap (λ c. fits (Some true) c) (h true refl)
fits_when (Some false) b h = ap (λ c. fits (Some false) c) (h false refl)

-- the two agree where they do whichever way the variable may be fixed
pub coincide_fixed : (d : Diagram) (p : List (Option Bool)) (v f g : ℕ) → IsSound d → IsLive d f → IsLive d g → ((b : Bool) → fits (get_or p v None) b ≡ true → CoincideAt d p (follow d.slots v b f) (follow d.slots v b g)) → CoincideAt d p f g
coincide_fixed d p v f g sound lf lg parts x agree =
    value_follow d v f sound lf x ∙ parts (x v) (fits_when (get_or p v None) (x v) (λ b is. agree v b is)) x agree ∙ sym (value_follow d v g sound lg x)

one_of : (d : Diagram) (p : List (Option Bool)) (v f g : ℕ) (b : Bool) → CoincideAt d p (follow d.slots v false f) (follow d.slots v false g) → CoincideAt d p (follow d.slots v true f) (follow d.slots v true g) → CoincideAt d p (follow d.slots v b f) (follow d.slots v b g)
one_of d p v f g false low high = low
one_of d p v f g true low high = high

-- the two agree where they do for each of both values of the variable
pub coincide_both : (d : Diagram) (p : List (Option Bool)) (v f g i : ℕ) → IsSound d → IsLive d f → IsLive d g → 2 ≤ i → ((k : ℕ) → k < i → CoincideAt d p (follow d.slots v (get_or (false ∷ true ∷ []) k false) f) (follow d.slots v (get_or (false ∷ true ∷ []) k false) g)) → CoincideAt d p f g
coincide_both d p v f g i sound lf lg end done =
    coincide_fixed d p v f g sound lf lg (λ b may. one_of d p v f g b (done 0 (omega arith)) (done 1 (omega arith)))

-- the one value that fits a fixed one
only_fits : (b c : Bool) → fits (Some b) c ≡ true → c ≡ b
only_fits true true h = refl
only_fits false false h = refl
only_fits true false h = h
only_fits false true h = sym h

-- the two agree where they do once a variable that p fixes is fixed
pub coincide_followed : (d : Diagram) (p : List (Option Bool)) (v f g : ℕ) (b : Bool) → IsSound d → IsLive d f → IsLive d g → get_or p v None ≡ Some b → CoincideAt d p (follow d.slots v b f) (follow d.slots v b g) → CoincideAt d p f g
coincide_followed d p v f g b sound lf lg is same =
    coincide_fixed d p v f g sound lf lg (λ c may.
    let e : c ≡ b = only_fits b c (ap (λ o. fits o c) (sym is) ∙ may) in
    rw e same)

pub fits_fixed : (o : Option Bool) (b : Bool) → o ≡ Some b → fits o b ≡ true
fits_fixed o true is = ap (λ u. fits u true) is
fits_fixed o false is = ap (λ u. fits u false) is

pub fits_free : (o : Option Bool) (b : Bool) → o ≡ None → fits o b ≡ true
fits_free o b is = ap (λ u. fits u b) is

-- the value of a node once its top variable is fixed
fixed_value : (d : Diagram) (v n : ℕ) (b : Bool) (x : Assignment) → IsSound d → has d.order v ≡ true → IsLiveIn d.slots (from d.order v) n → value d.slots d.order (put x v b) n ≡ value d.slots d.order x (follow d.slots v b n)
unfolding function_of
fixed_value d v n b x sound below live =
    let m = follow d.slots v b n in
    let drops : Ignores (function_of d m) v = ignores_above d v m sound (follow_above d v n b sound below live) in
    value_follow d v n sound (live_from_order d v n below live) (put x v b)
    ∙ ap (λ c. value d.slots d.order (put x v b) (follow d.slots v c n)) (put_at x v b)
    ∙ ap (λ (h : Function). h x) (drops b)

-- the two differ where they do once the variable is fixed as it may be
pub differ_fixed : (d : Diagram) (p : List (Option Bool)) (v f g : ℕ) (b : Bool) → IsSound d → has d.order v ≡ true → IsLiveIn d.slots (from d.order v) f → IsLiveIn d.slots (from d.order v) g → fits (get_or p v None) b ≡ true → DifferAt d p (follow d.slots v b f) (follow d.slots v b g) → DifferAt d p f g
differ_fixed d p v f g b sound below lf lg may h =
    let x = h.at in
    record {
      at = put x v b;
      agreeing = λ w c is. elim (cases_eq w v) [
        | inl e ↦ cond-true (eqb w v) b (x w) (eq-eqb w v e) ∙ fits_some (get_or p v None) c b may (ap (λ u. get_or p u None) (sym e) ∙ is)
        | inr other ↦ cond-false (eqb w v) b (x w) (ne_eqb w v other) ∙ h.agreeing w c is
      ];
      values = λ e. h.values (sym (fixed_value d v f b x sound below lf) ∙ e ∙ fixed_value d v g b x sound below lg);
    }

-- an assignment with the fixed values of p
some_agreeing : List (Option Bool) → Assignment
some_agreeing p v = value_of (get_or p v None)

value_is : (o : Option Bool) (b : Bool) → o ≡ Some b → value_of o ≡ b
value_is o b is = ap value_of is

apart_constants : (f g : ℕ) → f < 2 → g < 2 → f ≢ g → eqb f 1 ≢ eqb g 1
apart_constants f g hf hg ne e =
    elim (cases_eq f 1) [
      | inl a ↦ ne (a ∙ sym (eqb-true g 1 (sym e ∙ eq-eqb f 1 a)))
      | inr a ↦ elim (cases_eq g 1) [
        | inl c ↦ a (eqb-true f 1 (e ∙ eq-eqb g 1 c))
        | inr c ↦ ne (omega arith)
      ]
    ]

-- different constants differ
pub differ_constants : (d : Diagram) (p : List (Option Bool)) (f g : ℕ) → IsSound d → f < 2 → g < 2 → f ≢ g → DifferAt d p f g
unfolding some_agreeing
differ_constants d p f g sound hf hg ne =
    let x = some_agreeing p in
    record {
      at = x;
      agreeing = λ v b is. value_is (get_or p v None) b is;
      values = λ e. apart_constants f g hf hg ne
          (sym (value-small d.slots (length d.order) d.order f sound.diagram hf x) ∙ e ∙ value-small d.slots (length d.order) d.order g sound.diagram hg x);
    }

-- the first k values of x
bits_of : ℕ → Assignment → List Bool
bits_of zero x = []
bits_of (suc k) x = x 0 ∷ bits_of k (λ w. x (suc w))

length-bits_of : (k : ℕ) (x : Assignment) → length (bits_of k x) ≡ k
unfolding bits_of
length-bits_of zero x = refl
length-bits_of (suc k) x = ap suc (length-bits_of k (λ w. x (suc w)))

bit-bits_of : (k : ℕ) (x : Assignment) (w : ℕ) → w < k → get_or (bits_of k x) w false ≡ x w
unfolding bits_of
bit-bits_of zero x w h = absurd (omega arith)
bit-bits_of (suc k) x zero h = refl
bit-bits_of (suc k) x (suc w) h = bit-bits_of k (λ v. x (suc v)) w (omega arith)

-- the value of a node at the first bits is its value
value-bits_of : (d : Diagram) (x : Assignment) (n : ℕ) → IsSound d → value d.slots d.order (bit (bits_of (length d.order) x)) n ≡ value d.slots d.order x n
unfolding value
value-bits_of d x n sound =
    ap (λ m. eqb m 1) (walk-agree d.slots d.order (bit (bits_of (length d.order) x)) x n (λ v h. bit-bits_of (length d.order) x v (below-order (length d.order) d.order v sound.diagram.order h)))

-- the forms for assignments give those for bit lists
pub differ_lists : (d : Diagram) (p : List (Option Bool)) (f g : ℕ) → IsSound d → length p ≡ length d.order → DifferAt d p f g → Differ d p f g
differ_lists d p f g sound len h =
    let x = h.at in
    let k = length d.order in
    record {
      at = bits_of k x;
      long = length-bits_of k x;
      agreeing = agrees_all p (bits_of k x) (length-bits_of k x ∙ sym len) (λ i lt.
          fits_when (get_or p i None) (get_or (bits_of k x) i false) (λ c is. bit-bits_of k x i (omega arith) ∙ h.agreeing i c is));
      values = λ e. h.values (sym (value-bits_of d x f sound) ∙ e ∙ value-bits_of d x g sound);
    }

pub coincide_lists : (d : Diagram) (p : List (Option Bool)) (f g : ℕ) → length p ≡ length d.order → CoincideAt d p f g → Coincide d p f g
coincide_lists d p f g len all x long agreeing =
    all (bit x) (λ v b is. agrees_at p x v b (long ∙ sym len) agreeing is)

-- the pairs that coincide, with one more
pub pair_put : (d : Diagram) (p : List (Option Bool)) (ks new : List (ℕ × ℕ)) (f g : ℕ) → AllCoincide d p ks → CoincideAt d p f g → ((k : ℕ × ℕ) → list_any (λ j. eqb k.0 j.0 && eqb k.1 j.1) new ≡ cond (eqb f k.0 && eqb g k.1) true (list_any (λ j. eqb k.0 j.0 && eqb k.1 j.1) ks)) → AllCoincide d p new
pair_put d p ks new f g all same puts a b h =
    elim (cases_Bool (eqb f a && eqb g b)) [
      | inl e ↦
          let both = and_parts (eqb f a) (eqb g b) e in
          rw (sym (eqb-true f a both.0), sym (eqb-true g b both.1)) same
      | inr e ↦ all a b (sym (puts (a, b) ∙ cond-false (eqb f a && eqb g b) true (is_pair ks a b) e) ∙ h)
    ]

-- the two nodes fall where the top variable is fixed
pub pair_falls : (d : Diagram) (v f g : ℕ) (b : Bool) → IsSound d → HasVariable d v f ⊎ (HasVariable d v g ⊎ HasVariable d v g) → depth d (follow d.slots v b f) + depth d (follow d.slots v b g) < depth d f + depth d g
pair_falls d v f g b s (inl at) = let p = depth_falls d v f b s at in let q = depth_follow d v g b s in omega (arith, p, q)
pair_falls d v f g b s (inr (inl at)) = let p = depth_follow d v f b s in let q = depth_falls d v g b s at in omega (arith, p, q)
pair_falls d v f g b s (inr (inr at)) = let p = depth_follow d v f b s in let q = depth_falls d v g b s at in omega (arith, p, q)

pub fixed_live : (d : Diagram) (v n : ℕ) (b : Bool) → IsSound d → has d.order v ≡ true → IsLiveIn d.slots (from d.order v) n → IsLive d (follow d.slots v b n)
fixed_live d v n b sound below live = above_live d v (follow d.slots v b n) (follow_above d v n b sound below live)

not_false : (b : Bool) → b ≢ false → b ≡ true
not_false true h = refl
not_false false h = absurd (h refl)

-- a node that differs from FALSE is true somewhere
pub true_somewhere : (d : Diagram) (p : List (Option Bool)) (n : ℕ) → IsSound d → Differ d p n 0 → IsTrueSomewhere d p n
true_somewhere d p n sound h =
    let none : value d.slots d.order (bit h.at) 0 ≡ false = value-small d.slots (length d.order) d.order 0 sound.diagram (omega arith) (bit h.at) in
    record {
      at = h.at;
      long = h.long;
      agreeing = h.agreeing;
      is = not_false (value d.slots d.order (bit h.at) n) (λ e. h.values (e ∙ sym none));
    }

-- a node that coincides with FALSE is false throughout
pub false_throughout : (d : Diagram) (p : List (Option Bool)) (n : ℕ) → IsSound d → Coincide d p n 0 → IsFalseThroughout d p n
false_throughout d p n sound all x long agreeing =
    all x long agreeing ∙ value-small d.slots (length d.order) d.order 0 sound.diagram (omega arith) (bit x)
