-- Gates on some of the qubits, by the numbers of arguments.
use Rattle.std.proofs.Common.{◌≡◌, ◌∙◌, sym, ap, refl, ◌≤◌, ◌<◌, ℕ, zero, suc, ◌+◌, List, [], ◌∷◌, ◌++◌, length, map, replicate, get_or, take, drop, All, Option, Some, None, option_map, unwrap_or, Result, Ok, Err, arith, length-append, length-drop}
use Rattle.std.specs.Result.{result_map_both}
use Rattle.std.proofs.lemmas.List.{append-nil, length-map, map-append, take_more, take_all, get_or-drop, get_or-map, take-map, drop-map}
use Rattle.std.proofs.lemmas.List.Elements.{All-head, All-tail}
use Rattle.std.proofs.Math.Seq.{drop-append_seam, take-append_seam}
use Rattle.gate_set.specs.declared.kind.Kind.{Kind}
use Rattle.gate_set.specs.declared.gate.Gate.{Gate}
use Rattle.gate_set.specs.Shape.{IsPlaced}
use Rattle.gate_set.specs.Matrix.{arity_of}
use Rattle.qasm_lex.specs.declared.refusal.AngleRefusal.{AngleRefusal}
use Rattle.qasm_lex.specs.Fractions.{Ratio}
use Rattle.qasm_gates.specs.Gates.{Item, up_to, one, Builtin, base_arity, arity, Basic, call_on, item_on, placed}
use Rattle.qasm_gates.specs.Private.Seen.{items_of}
use Rattle.qasm_gates.specs.Private.Counts.{body_of, body_for, basic_items, items_done}
use Rattle.qasm_gates.specs.Private.Proper.{IsProper, AreProper, done_in}
use Rattle.qasm_gates.proofs.Builtins.{IsFit, named_fit}
use Rattle.qasm_gates.proofs.Bodied.{body_kind}
use Rattle.qasm_gates.proofs.Good.{up_to_length}

-- one more of the same
pub replicate_next : {X : Type 0} (n next : ℕ) (x : X) → next ≡ n + 1 → replicate next x ≡ replicate n x ++ x ∷ []
replicate_next n next x e = let s : next ≡ suc n = omega arith in ap (λ m. replicate m x) s ∙ go n
  where
    go : (n : ℕ) → replicate (suc n) x ≡ replicate n x ++ x ∷ []
    go zero = refl
    go (suc n) = ap (λ r. x ∷ r) (go n)

-- the first numbers pick the first qubits
pub picked : (qs : List ℕ) (n : ℕ) → n ≤ length qs → map (λ i. get_or qs i 0) (up_to n) ≡ take n qs
picked qs zero h = refl
picked qs (suc n) h =
    let e : n + 1 ≡ suc n = omega arith in
    map-append (λ i. get_or qs i 0) (up_to n) (n ∷ []) ∙ ap (λ r. r ++ get_or qs n 0 ∷ []) (picked qs n (omega arith)) ∙ sym (take_more qs n 0 (omega arith)) ∙ ap (λ m. take m qs) e

-- those after n pick the qubits after n
pub picked_past : (qs : List ℕ) (n m : ℕ) → n + m ≤ length qs → map (λ i. get_or qs i 0) (map (λ i. n + i) (up_to m)) ≡ take m (drop n qs)
picked_past qs n zero h = refl
picked_past qs n (suc m) h =
    let e : m + 1 ≡ suc m = omega arith in
    let l : m < length (drop n qs) = omega (arith, length-drop n qs) in
    ap (map (λ i. get_or qs i 0)) (map-append (λ i. n + i) (up_to m) (m ∷ []))
    ∙ map-append (λ i. get_or qs i 0) (map (λ i. n + i) (up_to m)) ((n + m) ∷ [])
    ∙ ap (λ r. r ++ get_or qs (n + m) 0 ∷ []) (picked_past qs n m (omega arith))
    ∙ ap (λ x. take m (drop n qs) ++ x ∷ []) (sym (get_or-drop n qs m 0))
    ∙ sym (take_more (drop n qs) m 0 l) ∙ ap (λ m. take m (drop n qs)) e

-- a gate of a place: the first n of its qubits are further controls
abbrev pub gate_on : ℕ → Kind → List ℕ → Gate
gate_on n kind qs = record { kind = kind; on = drop n qs; extra = take n qs }

pub placed_one : (n : ℕ) (kind : Kind) (qs : List ℕ) → length qs ≡ n + arity_of kind → placed qs (one n kind) ≡ gate_on n kind qs
placed_one n kind qs e =
    ap (λ on. record { kind = kind; on = on; extra = map (λ i. get_or qs i 0) (up_to n) })
    (picked_past qs n (arity_of kind) (omega arith) ∙ take_all (arity_of kind) (drop n qs) (omega (arith, length-drop n qs)))
    ∙ ap (λ extra. record { kind = kind; on = drop n qs; extra = extra }) (picked qs n (omega arith))

map_replicate : {X Y : Type 0} (f : X → Y) (n : ℕ) (x : X) → map f (replicate n x) ≡ replicate n (f x)
map_replicate f zero x = refl
map_replicate f (suc n) x = ap (λ r. f x ∷ r) (map_replicate f n x)

-- gates of one kind on all qubits of a place
pub placed_all : (n : ℕ) (kind : Kind) (times : ℕ) (qs : List ℕ) → length qs ≡ n + arity_of kind → map (placed qs) (replicate times (one n kind)) ≡ replicate times (gate_on n kind qs)
placed_all n kind times qs e = map_replicate (placed qs) times (one n kind) ∙ ap (replicate times) (placed_one n kind qs e)

pub placed_same : (kind : Kind) (times : ℕ) (extra on : List ℕ) → IsPlaced kind extra on
    → replicate times (record { kind = kind; on = on; extra = extra }) ≡ map (placed (extra ++ on)) (replicate times (one (length extra) kind))
placed_same kind times extra on p =
    sym (placed_all (length extra) kind times (extra ++ on) (length-append extra on ∙ ap (λ k. length extra + k) p.count)
    ∙ ap (λ q. replicate times (record { kind = kind; on = q; extra = take (length extra) (extra ++ on) })) (drop-append_seam extra on)
    ∙ ap (λ q. replicate times (record { kind = kind; on = on; extra = q })) (take-append_seam extra on))

-- numbers, picked by numbers
abbrev pub pick : List ℕ → List ℕ → List ℕ
pick on js = map (λ k. get_or on k 0) js

placed_item : (on js : List ℕ) (n : ℕ) (kind : Kind) → length js ≡ n + arity_of kind → placed on (item_on js (one n kind)) ≡ placed (pick on js) (one n kind)
placed_item on js n kind e =
    let f = λ (k : ℕ). get_or on k 0 in
    let gate = λ (xs ys : List ℕ). (let g : Gate = record { kind = kind; on = xs; extra = ys } in g) in
    ap (λ xs. gate (map f xs) (map f (pick js (up_to n)))) (picked_past js n (arity_of kind) (omega arith) ∙ take_all (arity_of kind) (drop n js) (omega (arith, length-drop n js)))
    ∙ ap (λ ys. gate (map f (drop n js)) (map f ys)) (picked js n (omega arith))
    ∙ ap (λ xs. gate xs (map f (take n js))) (sym (drop-map f n js)) ∙ ap (gate (drop n (map f js))) (sym (take-map f n js))
    ∙ sym (placed_one n kind (map f js) (length-map js f ∙ e))

pub placed_items : (on js : List ℕ) (n : ℕ) (kind : Kind) (times : ℕ) → length js ≡ n + arity_of kind → map (placed on) (map (item_on js) (replicate times (one n kind))) ≡ map (placed (pick on js)) (replicate times (one n kind))
placed_items on js n kind zero e = refl
placed_items on js n kind (suc times) e =
    ap (λ g. g ∷ map (placed on) (map (item_on js) (replicate times (one n kind)))) (placed_item on js n kind e)
    ∙ ap (λ gs. placed (pick on js) (one n kind) ∷ gs) (placed_items on js n kind times e)

-- numbers that are picked twice
pick_twice : (on js ks : List ℕ) → All (λ k. k < length js) ks → pick on (pick js ks) ≡ pick (pick on js) ks
pick_twice on js [] h = refl
pick_twice on js (k ∷ ks) h =
    ap (λ x. x ∷ pick on (pick js ks)) (sym (get_or-map (λ k. get_or on k 0) js k 0 0 (All-head (λ k. k < length js) k ks h)))
    ∙ ap (λ xs. get_or (pick on js) k 0 ∷ xs) (pick_twice on js ks (All-tail (λ k. k < length js) k ks h))

-- the gates of a call of a built-in gate, by what it comes to
body_items : Builtin → Option (Kind × ℕ) → List Item
body_items b x = unwrap_or (option_map (items_of b.controls) x) []

body_placed : (on js : List ℕ) (c : Basic) (x : Option (Kind × ℕ)) → ((p : Kind × ℕ) → x ≡ Some p → arity_of p.0 ≡ base_arity c.gate.base) → IsProper (length js) c
    → map (placed on) (map (item_on (pick js c.on)) (body_items c.gate x)) ≡ map (placed (pick on js)) (map (item_on c.on) (body_items c.gate x))
unfolding body_items
body_placed on js c None k h = refl
body_placed on js c (Some p) k h =
    let n : length c.on ≡ c.gate.controls + arity_of p.0 = h.counted ∙ ap (λ m. c.gate.controls + m) (sym (k p refl)) in
    placed_items on (pick js c.on) c.gate.controls p.0 p.1 (length-map c.on (λ k. get_or js k 0) ∙ n)
    ∙ ap (λ qs. map (placed qs) (replicate p.1 (one c.gate.controls p.0))) (pick_twice on js c.on h.below)
    ∙ sym (placed_items (pick on js) c.on c.gate.controls p.0 p.1 n)

basic_placed : (on js : List ℕ) (c : Basic) → IsProper (length js) c → map (placed on) (basic_items (call_on js c)) ≡ map (placed (pick on js)) (basic_items c)
unfolding body_items
basic_placed on js c h =
    let fit = named_fit h.named.0 c.gate h.named.1 in
    body_placed on js c (body_of c.gate.base c.angles) (λ p e. (body_kind c.gate.base fit.base c.angles p e).0) h

-- the gates of calls on some of the arguments are those on what these are
pub items_placed : (on js : List ℕ) (basics : List Basic) → AreProper (length js) basics → map (placed on) (items_done (map (call_on js) basics)) ≡ map (placed (pick on js)) (items_done basics)
items_placed on js [] h = refl
items_placed on js (c ∷ basics) h =
    map-append (placed on) (basic_items (call_on js c)) (items_done (map (call_on js) basics))
    ∙ ap (λ g. g ++ map (placed on) (items_done (map (call_on js) basics))) (basic_placed on js c (All-head (IsProper (length js)) c basics h))
    ∙ ap (λ g. map (placed (pick on js)) (basic_items c) ++ g) (items_placed on js basics (All-tail (IsProper (length js)) c basics h))
    ∙ sym (map-append (placed (pick on js)) (basic_items c) (items_done basics))

abbrev pub basic_of : Builtin → List Ratio → Basic
basic_of b angles = record { gate = b; angles = angles; on = up_to (arity b) }

-- what a call of a built-in gate means, by its multiples of π
abbrev pub basics_for : Builtin → Result (List Ratio) AngleRefusal → Result (List Basic) AngleRefusal
basics_for b r = result_map_both (λ angles. basic_of b angles ∷ []) (λ e. e) r

one_basic : (b : Builtin) (angles : List Ratio) (x : Option (Kind × ℕ)) → body_of b.base angles ≡ x → items_done (basic_of b angles ∷ []) ≡ map (item_on (up_to (arity b))) (body_items b x)
unfolding body_items
one_basic b angles x e = append-nil (basic_items (basic_of b angles)) ∙ ap (λ x. map (item_on (up_to (arity b))) (unwrap_or (option_map (items_of b.controls) x) [])) e

pub builtin_placed : (b : Builtin) (r : Result (List Ratio) AngleRefusal) (p : Kind × ℕ) (on : List ℕ) → IsFit 8 b → length on ≡ arity b → Ok (Some p) ≡ body_for b.base r
    → map (placed on) (done_in (basics_for b r)) ≡ map (placed on) (replicate p.1 (one b.controls p.0))
unfolding body_items
builtin_placed b (Err x) p on fit c e = absurd cc
builtin_placed b (Ok angles) p on fit c e =
    let q : body_of b.base angles ≡ Some p = cc e in
    let k = (body_kind b.base fit.base angles p q).0 in
    let whole : pick on (up_to (arity b)) ≡ on = picked on (arity b) (omega arith) ∙ take_all (arity b) on (omega arith) in
    ap (map (placed on)) (one_basic b angles (Some p) q)
    ∙ placed_items on (up_to (arity b)) b.controls p.0 p.1 (up_to_length (arity b) ∙ ap (λ m. b.controls + m) (sym k))
    ∙ ap (λ qs. map (placed qs) (replicate p.1 (one b.controls p.0))) whole

-- off its grid it gives none
pub builtin_off : (b : Builtin) (r : Result (List Ratio) AngleRefusal) → Ok None ≡ body_for b.base r → done_in (basics_for b r) ≡ []
unfolding body_items
builtin_off b (Err x) e = refl
builtin_off b (Ok angles) e = let q : body_of b.base angles ≡ None = cc e in one_basic b angles None q

pub builtin_refused : (b : Builtin) (r : Result (List Ratio) AngleRefusal) (x : AngleRefusal) → Err x ≡ body_for b.base r → done_in (basics_for b r) ≡ []
builtin_refused b (Err y) x e = refl
builtin_refused b (Ok angles) x e = absurd cc
