-- The nodes that are made from a snapshot's lines denote the functions of its nodes.
use Rattle.std.proofs.Common.{◌≡◌, ℕ, zero, suc, ◌+◌, ◌*◌, ◌<◌, ◌≤◌, Bool, true, false, cond, eqb, List, [], ◌∷◌, ◌++◌, map, flat_map, length, take, drop, get_or, inl, inr, refl, sym, ◌∙◌, ap, subst, arith, append_assoc, append-nil}
use Rattle.std.specs.List.{All}
use Rattle.std.proofs.Math.Seq.{take-length}
use Rattle.std.proofs.lemmas.Bool.{cases_Bool, false≢true}
use Rattle.std.proofs.lemmas.List.{get_or-map, get_or_append_left, get_or-append-add, length-map, map-append, map_more, take_more, take-append-drop}
use Rattle.std.proofs.lemmas.List.Elements.{All-get_or, All-from_get_or, All-head, All-tail, All-cons, All-nil, All-append, All-take, All-drop}
use mathlib.Core.Path.{fun_ext}
use Rattle.bit_lists.specs.Orders.{has, after}
use Rattle.diagram_model.specs.Functions.{Assignment, Function, fix}
use Rattle.diagram_model.specs.Nodes.{value}
use Rattle.diagram_model.specs.Size.{depends}
use Rattle.diagram_model.specs.Stores.{Diagram, IsLive, IsAbove, IsSound, IsChoice, Extends, function_of}
use Rattle.diagram_model.proofs.Counting.{ignores_depends}
use Rattle.diagram_model.proofs.Growing.{function_on, live_on}
use Rattle.diagram_model.proofs.Sizes.{walk-agree}
use Rattle.diagram_model.proofs.Values.{below-order}
use Rattle.node_store.specs.declared.node.Node.{Node}
use Rattle.slice_vec.specs.Slices.{StandsIn}
use Rattle.slice_quad.specs.declared.coord.Coord.{Coord}
use Rattle.slice_quad.specs.declared.coord.Coord.TheVariants.{A, B, C, D}
use Rattle.slice_quad.specs.declared.four.Four.{Four}
use Rattle.slice_quad.specs.declared.quad.SliceQuad.{SliceQuad}
use Rattle.slice_quad.specs.Fields.{numbers}
use Rattle.slice_quad.specs.Fours.{nodes_of}
use Rattle.slice_quad.specs.Vectors.{Stands}
use Rattle.snapshot.specs.Numbers.{NodeLine, knows, number_in, line_of, never, always}
use Rattle.snapshot.specs.Snapshots.{Snapshot, IsSnapshot, functions_in, nodes_in, sheet_of}
use Rattle.snapshot.specs.Private.{functions}
use Rattle.snapshot.specs.Reading.{node_numbers}
use Rattle.snapshot.specs.Making.{node_at, nodes_at, AreThere, OnBad, IsLine, IsMade, AreLinesOf}
use Rattle.snapshot.specs.declared.making.MakeStop.{MakeStop}
use Rattle.snapshot.specs.declared.making.MakeStop.TheVariants.{Bad, OutOfMemory}
use Rattle.snapshot.proofs.Listing.{reads_here, never_is, always_is}
use Rattle.snapshot.proofs.Listed.{Reads, OnlyOn, AllReads, IsEntry, AreEntries, only_fixed, reads_fix, fix_own}
use Rattle.snapshot.proofs.SnapshotLines.{number_below, number_function, entry_line, snapshot_listed}
use Rattle.snapshot.proofs.Shapes.{lines_count, lines_length}

-- ---- the numbers of a line
pub line_read : (ls : List NodeLine) (i j : ℕ) (z : NodeLine) → i < length ls → j < 3 → get_or (flat_map node_numbers ls) (3 * i + j) 0 ≡ get_or (node_numbers (get_or ls i z)) j 0
line_read [] i j z lt small = absurd (omega (arith, lt))
line_read (l ∷ ls) zero j z lt small =
    ap (λ k. get_or (node_numbers l ++ flat_map node_numbers ls) k 0) (let e : 3 * 0 + j ≡ j = omega arith in e) ∙ get_or_append_left (node_numbers l) (flat_map node_numbers ls) 0 j small
line_read (l ∷ ls) (suc i) j z lt small =
    ap (λ k. get_or (node_numbers l ++ flat_map node_numbers ls) k 0) (let e : 3 * suc i + j ≡ 3 + (3 * i + j) = omega arith in e)
    ∙ get_or-append-add (node_numbers l) (flat_map node_numbers ls) (3 * i + j) 0 ∙ line_read ls i j z (omega (arith, lt)) small

-- ---- the entry of a place
entry_at : (k : ℕ) (order : List ℕ) (before fs : List Function) (i : ℕ) (d : Function) → AreEntries k order before fs → i < length fs → IsEntry k order (before ++ take i fs) (get_or fs i d)
unfolding AreEntries
entry_at k order before [] i d all lt = absurd (omega (arith, lt))
entry_at k order before (f ∷ fs) zero d all lt = subst (λ l. IsEntry k order l f) (sym (append-nil before)) all.0
entry_at k order before (f ∷ fs) (suc i) d all lt =
    subst (λ l. IsEntry k order l (get_or fs i d)) (append_assoc before (f ∷ []) (take i fs)) (entry_at k order (before ++ f ∷ []) fs i d all.1 (omega (arith, lt)))

-- the functions before the place of a node, from the constants on
abbrev pub first_functions : Snapshot → ℕ → List Function
first_functions s i = never ∷ always ∷ take i (drop 2 (functions_in s))

-- the node of that place
abbrev pub function_at : Snapshot → ℕ → Function
function_at s i = get_or (drop 2 (functions_in s)) i never

listed_whole : (s : Snapshot) → IsSnapshot s → functions_in s ≡ never ∷ always ∷ drop 2 (functions_in s)
listed_whole s h =
    let a = snapshot_listed s h in
    a.is ∙ ap (λ (l : List Function). never ∷ always ∷ l) (sym (ap (drop 2) a.is))

listed_entries : (s : Snapshot) → IsSnapshot s → AreEntries (length s.order) s.order (never ∷ always ∷ []) (drop 2 (functions_in s))
listed_entries s h =
    let a = snapshot_listed s h in
    subst (AreEntries (length s.order) s.order (never ∷ always ∷ [])) (sym (ap (drop 2) a.is)) a.entries

-- a line, by the functions before it
pub record IsNext (s : Snapshot) (i v l h : ℕ) : Type 0 where
  pub entry : IsEntry (length s.order) s.order (first_functions s i) (function_at s i)
  pub var : v ≡ entry.var
  pub low : l ≡ number_in (length s.order) (first_functions s i) (fix entry.var false (function_at s i))
  pub high : h ≡ number_in (length s.order) (first_functions s i) (fix entry.var true (function_at s i))

line_z : NodeLine
line_z = record { var = 0; low = 0; high = 0 }

line_at : (s : Snapshot) (i : ℕ) → IsSnapshot s → i < nodes_in s → (e : IsEntry (length s.order) s.order (first_functions s i) (function_at s i))
    → get_or (sheet_of s).nodes i line_z ≡ record { var = e.var; low = number_in (length s.order) (first_functions s i) (fix e.var false (function_at s i)); high = number_in (length s.order) (first_functions s i) (fix e.var true (function_at s i)) }
line_at s i h lt e =
    let k = length s.order in
    let fs = functions_in s in
    let more = drop 2 fs in
    let whole : fs ≡ first_functions s i ++ drop i more = listed_whole s h ∙ ap (λ (l : List Function). never ∷ always ∷ l) (sym (take-append-drop i more)) in
    get_or-map (line_of k s.order fs) more i never line_z lt
    ∙ ap (λ l. line_of k s.order l (function_at s i)) whole
    ∙ entry_line k s.order (first_functions s i) (drop i more) (function_at s i) h.order.once e

pub next_line : (s : Snapshot) (order lines : List ℕ) (i : ℕ) → AreLinesOf order lines s → i < nodes_in s → IsNext s i (get_or lines (3 * i) 0) (get_or lines (3 * i + 1) 0) (get_or lines (3 * i + 2) 0)
next_line s order lines i h lt =
    let e = entry_at (length s.order) s.order (never ∷ always ∷ []) (drop 2 (functions_in s)) i never (listed_entries s h.snapshot) lt in
    let is = line_at s i h.snapshot lt e in
    let within : i < length (sheet_of s).nodes = (let c = lines_count s in omega (arith, lt, c)) in
    let read : (j : ℕ) → j < 3 → get_or lines (3 * i + j) 0 ≡ get_or (node_numbers (get_or (sheet_of s).nodes i line_z)) j 0 = λ j small.
    ap (λ l. get_or l (3 * i + j) 0) h.lines ∙ line_read (sheet_of s).nodes i j line_z within small in
    record {
      entry = e;
      var = ap (λ m. get_or lines m 0) (let z : 3 * i ≡ 3 * i + 0 = omega arith in z) ∙ read 0 (omega arith) ∙ ap (λ (l : NodeLine). l.var) is;
      low = read 1 (omega arith) ∙ ap (λ (l : NodeLine). l.low) is;
      high = read 2 (omega arith) ∙ ap (λ (l : NodeLine). l.high) is;
    }

-- ---- functions of nodes
pub function_reads : (d : Diagram) (n : ℕ) → IsSound d → Reads (length d.order) (function_of d n)
unfolding function_of value
function_reads d n sound x y same =
    ap (λ m. eqb m 1) (walk-agree d.slots d.order x y n (λ v h. same v (below-order (length d.order) d.order v sound.diagram.order h)))

pub functions_read : (d : Diagram) (ns : List ℕ) → IsSound d → AllReads (length d.order) (functions d ns)
functions_read d [] sound = tt
functions_read d (n ∷ ns) sound = (function_reads d n sound, functions_read d ns sound)

pub node_function : (d : Diagram) (nodes : List Node) (i : ℕ) → i < length nodes → get_or (functions d (numbers nodes)) i never ≡ function_of d (node_at nodes i)
node_function d nodes i lt =
    let within : i < length (numbers nodes) = (let c = length-map nodes (λ (n : Node). n.0) in omega (arith, c, lt)) in
    get_or-map (function_of d) (numbers nodes) i 0 never within ∙ ap (function_of d) (get_or-map (λ (n : Node). n.0) nodes i (record { 0 = 0 }) 0 lt)

node_live : (d : Diagram) (nodes : List Node) (i : ℕ) → All (λ (n : Node). IsLive d n.0) nodes → i < length nodes → IsLive d (node_at nodes i)
node_live d nodes i live lt = All-get_or (λ (n : Node). IsLive d n.0) nodes i (record { 0 = 0 }) lt live

-- a node whose function reads variables below v alone stands below v
above_only : (d : Diagram) (v n : ℕ) (f : Function) → IsSound d → IsLive d n → function_of d n ≡ f → OnlyOn (after d.order v) f → IsAbove d v n
above_only d v n f s (inl small) e only = inl small
above_only d v n f s (inr h) e only =
    elim (cases_Bool (has (after d.order v) h.parts.var)) [
      | inl there ↦ inr (record { parts = h.parts; is = h.is; below = there })
      | inr out ↦
          absurd (false≢true (sym (ignores_depends (length d.order) h.parts.var f (only h.parts.var out)) ∙ ap (depends (length d.order) h.parts.var) (sym e) ∙ reads_here d n h.parts s h.is))
    ]

-- the nodes so far denote the functions before a place
abbrev pub AreFirst : Diagram → List Node → Snapshot → ℕ → Type 0
AreFirst d nodes s i = functions d (numbers nodes) ≡ first_functions s i

module _ (d : Diagram) (s : Snapshot) (nodes : List Node) (i v low high : ℕ) (sound : IsSound d) (order : d.order ≡ s.order) (snapshot : IsSnapshot s) (live : All (λ (n : Node). IsLive d n.0) nodes) (told : AreFirst d nodes s i) (next : IsNext s i v low high) where
  before : List Function
  before = first_functions s i

  before_read : AllReads (length s.order) before
  unfolding before
  before_read = subst (AllReads (length s.order)) told (subst (λ o. AllReads (length o) (functions d (numbers nodes))) order (functions_read d (numbers nodes) sound))

  before_long : length before ≡ length nodes
  unfolding before
  before_long = sym (ap length told) ∙ length-map (numbers nodes) (function_of d) ∙ length-map nodes (λ (n : Node). n.0)

  -- the node of a child
  child_there : (b : Bool) (c : ℕ) → c ≡ number_in (length s.order) before (fix next.entry.var b (function_at s i)) → knows (length s.order) before (fix next.entry.var b (function_at s i)) ≡ true → c < length nodes
  child_there b c e known =
      let less = number_below (length s.order) before (fix next.entry.var b (function_at s i)) known in
      omega (arith, less, e, before_long)

  child_function : (b : Bool) (c : ℕ) → c ≡ number_in (length s.order) before (fix next.entry.var b (function_at s i)) → knows (length s.order) before (fix next.entry.var b (function_at s i)) ≡ true → function_of d (node_at nodes c) ≡ fix v b (function_at s i)
  unfolding before
  child_function b c e known =
      let g = fix next.entry.var b (function_at s i) in
      sym (node_function d nodes c (child_there b c e known)) ∙ ap (λ l. get_or l c never) told ∙ ap (λ m. get_or before m never) e
      ∙ number_function (length s.order) before g never before_read (reads_fix (length s.order) next.entry.var b (function_at s i) next.entry.reads) known
      ∙ ap (λ w. fix w b (function_at s i)) (sym next.var)

  child_below : (b : Bool) (c : ℕ) → c ≡ number_in (length s.order) before (fix next.entry.var b (function_at s i)) → knows (length s.order) before (fix next.entry.var b (function_at s i)) ≡ true → IsAbove d v (node_at nodes c)
  child_below b c e known =
      let f = function_at s i in
      let only : OnlyOn (after s.order next.entry.var) (fix next.entry.var b f) = only_fixed next.entry.var (after s.order next.entry.var) b f next.entry.only in
      let only_v : OnlyOn (after s.order v) (fix v b f) = subst (λ w. OnlyOn (after s.order w) (fix w b f)) (sym next.var) only in
      above_only d v (node_at nodes c) (fix v b f) sound (node_live d nodes c live (child_there b c e known)) (child_function b c e known) (subst (λ o. OnlyOn (after o v) (fix v b f)) (sym order) only_v)

  -- the line is one
  pub is_line : IsLine d nodes v low high
  unfolding before
  is_line =
      let within : next.entry.var < length s.order = below-order (length s.order) s.order next.entry.var snapshot.order.once next.entry.there in
      record {
        var = (let o = ap length order in let e = next.var in omega (arith, within, o, e));
        low_there = child_there false low next.low next.entry.low;
        high_there = child_there true high next.high next.entry.high;
        low_below = child_below false low next.low next.entry.low;
        high_below = child_below true high next.high next.entry.high;
      }

-- ---- the node of a line
-- a choice between the halves of a function is that function
choice_is : (e : Diagram) (v l h n : ℕ) (f : Function) → IsChoice e v l h n → function_of e l ≡ fix v false f → function_of e h ≡ fix v true f → function_of e n ≡ f
unfolding function_of
choice_is e v l h n f choice low high = fun_ext (λ x. choice x ∙ pick x (x v) refl)
  where
    pick : (x : Assignment) (b : Bool) → x v ≡ b → value e.slots e.order x (cond b h l) ≡ f x
    pick x true is = ap (λ g. g x) high ∙ ap (λ b. fix v b f x) (sym is) ∙ fix_own f v x
    pick x false is = ap (λ g. g x) low ∙ ap (λ b. fix v b f x) (sym is) ∙ fix_own f v x

functions_on : (d e : Diagram) (nodes : List Node) → IsSound d → IsSound e → Extends d e → All (λ (n : Node). IsLive d n.0) nodes → functions e (numbers nodes) ≡ functions d (numbers nodes)
functions_on d e [] sd se ext live = refl
functions_on d e (n ∷ nodes) sd se ext live =
    ap (λ f. f ∷ functions e (numbers nodes)) (function_on d e n.0 sd se ext (All-head (λ (m : Node). IsLive d m.0) n nodes live)) ∙ ap (λ l. function_of d n.0 ∷ l) (functions_on d e nodes sd se ext (All-tail (λ (m : Node). IsLive d m.0) n nodes live))

pub first_more : (d e : Diagram) (s : Snapshot) (nodes : List Node) (i v low high : ℕ) (n : Node) → IsSound d → IsSound e → Extends d e → d.order ≡ s.order → IsSnapshot s → All (λ (m : Node). IsLive d m.0) nodes → AreFirst d nodes s i → IsNext s i v low high → i < nodes_in s
    → IsMade e nodes v low high n.0 → AreFirst e (nodes ++ n ∷ []) s (i + 1)
unfolding before
first_more d e s nodes i v low high n sd se ext order snapshot live told next lt made =
    let f = function_at s i in
    let more = drop 2 (functions_in s) in
    let half : (b : Bool) (c : ℕ) → c ≡ number_in (length s.order) (first_functions s i) (fix next.entry.var b f) → knows (length s.order) (first_functions s i) (fix next.entry.var b f) ≡ true → function_of e (node_at nodes c) ≡ fix v b f = λ b c at known.
    function_on d e (node_at nodes c) sd se ext (node_live d nodes c live (child_there d s nodes i v low high sd order snapshot live told next b c at known)) ∙ child_function d s nodes i v low high sd order snapshot live told next b c at known in
    let new : function_of e n.0 ≡ f = choice_is e v (node_at nodes low) (node_at nodes high) n.0 f made.choice (half false low next.low next.entry.low) (half true high next.high next.entry.high) in
    ap (map (function_of e)) (map-append (λ (m : Node). m.0) nodes (n ∷ [])) ∙ map-append (function_of e) (numbers nodes) (n.0 ∷ [])
    ∙ ap (λ l. l ++ function_of e n.0 ∷ []) (functions_on d e nodes sd se ext live ∙ told)
    ∙ ap (λ g. first_functions s i ++ g ∷ []) new
    ∙ ap (λ (l : List Function). never ∷ always ∷ l) (sym (take_more more i never lt))

-- all lines
pub first_all : (d : Diagram) (s : Snapshot) (nodes : List Node) (i : ℕ) → IsSnapshot s → i ≡ nodes_in s → AreFirst d nodes s i → functions d (numbers nodes) ≡ functions_in s
first_all d s nodes i h e told =
    told ∙ ap (λ (l : List Function). never ∷ always ∷ l) (ap (λ j. take j (drop 2 (functions_in s))) e ∙ take-length (drop 2 (functions_in s))) ∙ sym (listed_whole s h)

-- three numbers for each node
pub lines_nodes : (order lines : List ℕ) (s : Snapshot) → AreLinesOf order lines s → length lines ≡ 3 * nodes_in s
lines_nodes order lines s h = ap length h.lines ∙ lines_length (sheet_of s).nodes ∙ ap (λ i. 3 * i) (lines_count s)

-- no line yet
pub first_none : (d : Diagram) (s : Snapshot) (nodes : List Node) → IsSound d → numbers nodes ≡ 0 ∷ 1 ∷ [] → AreFirst d nodes s 0
first_none d s nodes sound e = ap (functions d) e ∙ ap (λ g. g ∷ function_of d 1 ∷ []) (never_is d sound) ∙ ap (λ g. never ∷ g ∷ []) (always_is d sound)

-- live nodes, and one more
pub live_more : (d e : Diagram) (nodes : List Node) (n : Node) → Extends d e → All (λ (m : Node). IsLive d m.0) nodes → IsLive e n.0 → All (λ (m : Node). IsLive e m.0) (nodes ++ n ∷ [])
live_more d e [] n ext live new = All-cons (λ (m : Node). IsLive e m.0) n [] new (All-nil (λ (m : Node). IsLive e m.0))
live_more d e (m ∷ nodes) n ext live new =
    All-cons (λ (k : Node). IsLive e k.0) m (nodes ++ n ∷ []) (live_on d e m.0 ext (All-head (λ (k : Node). IsLive d k.0) m nodes live))
    (live_more d e nodes n ext (All-tail (λ (k : Node). IsLive d k.0) m nodes live) new)

constant_live : (d : Diagram) (n : ℕ) (i : ℕ) → i < 2 → n ≡ get_or (0 ∷ 1 ∷ []) i 0 → IsLive d n
constant_live d n zero lt e = inl (omega (arith, e))
constant_live d n (suc zero) lt e = inl (omega (arith, e))
constant_live d n (suc (suc i)) lt e = absurd (omega (arith, lt))

pub live_constants : (d : Diagram) (nodes : List Node) → numbers nodes ≡ 0 ∷ 1 ∷ [] → All (λ (m : Node). IsLive d m.0) nodes
live_constants d nodes e =
    All-from_get_or (λ (m : Node). IsLive d m.0) nodes (record { 0 = 0 }) (λ i lt.
    let long = length-map nodes (λ (n : Node). n.0) in
    let two : length (numbers nodes) ≡ 2 = ap length e in
    constant_live d (node_at nodes i) i (omega (arith, lt, long, two)) (sym (get_or-map (λ (n : Node). n.0) nodes i (record { 0 = 0 }) 0 lt) ∙ ap (λ l. get_or l i 0) e))

-- the nodes of one number more
pub nodes_more : (nodes : List Node) (bits : List ℕ) (i : ℕ) (old new : List Node) (n : Node) → i < length bits → numbers old ≡ nodes_at nodes (take i bits) → n.0 ≡ node_at nodes (get_or bits i 0) → new ≡ old ++ n ∷ [] → numbers new ≡ nodes_at nodes (take (i + 1) bits)
nodes_more nodes bits i old new n lt so_far here e =
    ap numbers e ∙ map-append (λ (m : Node). m.0) old (n ∷ []) ∙ ap (λ l. l ++ n.0 ∷ []) so_far ∙ ap (λ m. nodes_at nodes (take i bits) ++ m ∷ []) here ∙ sym (map_more (node_at nodes) bits i 0 lt)

-- two pieces are the whole
pub nodes_both : (nodes : List Node) (bits low high first second : List ℕ) (w : ℕ) → low ≡ take w bits → high ≡ drop w bits → first ≡ nodes_at nodes low → second ≡ nodes_at nodes high → first ++ second ≡ nodes_at nodes bits
nodes_both nodes bits low high first second w el eh ef es =
    ap (λ l. l ++ second) ef ∙ ap (λ l. nodes_at nodes low ++ l) es ∙ sym (map-append (node_at nodes) low high) ∙ ap (nodes_at nodes) (ap (λ l. l ++ high) el ∙ ap (λ l. take w bits ++ l) eh ∙ take-append-drop w bits)

pub there_both : (nodes : List Node) (bits low high : List ℕ) (w : ℕ) → low ≡ take w bits → high ≡ drop w bits → AreThere nodes low → AreThere nodes high → AreThere nodes bits
there_both nodes bits low high w el eh tl th =
    subst (AreThere nodes) (ap (λ l. l ++ high) el ∙ ap (λ l. take w bits ++ l) eh ∙ take-append-drop w bits) (All-append (λ i. i < length nodes) low high tl th)

pub there_low : (nodes : List Node) (bits low : List ℕ) (w : ℕ) → low ≡ take w bits → AreThere nodes bits → AreThere nodes low
there_low nodes bits low w e h = subst (AreThere nodes) (sym e) (All-take (λ i. i < length nodes) w bits h)

pub there_high : (nodes : List Node) (bits high : List ℕ) (w : ℕ) → high ≡ drop w bits → AreThere nodes bits → AreThere nodes high
there_high nodes bits high w e h = subst (AreThere nodes) (sym e) (All-drop (λ i. i < length nodes) w bits h)

-- ---- stops
-- what follows from what is known where the numbers were bad
pub on_bad : (P Q : Type 0) (x : MakeStop) → (P → Q) → OnBad P x → OnBad Q x
on_bad P Q Bad f h = f h
on_bad P Q OutOfMemory f h = tt

all_left : {X : Type 0} (P : X → Type 0) (xs ys : List X) → All P (xs ++ ys) → All P xs
all_left P [] ys h = All-nil P
all_left P (x ∷ xs) ys h = All-cons P x xs (All-head P x (xs ++ ys) h) (all_left P xs ys (All-tail P x (xs ++ ys) h))

all_right : {X : Type 0} (P : X → Type 0) (xs ys : List X) → All P (xs ++ ys) → All P ys
all_right P [] ys h = h
all_right P (x ∷ xs) ys h = all_right P xs ys (All-tail P x (xs ++ ys) h)

live_nodes : (d : Diagram) (nodes : List Node) (is : List ℕ) → All (λ (m : Node). IsLive d m.0) nodes → AreThere nodes is → All (IsLive d) (nodes_at nodes is)
live_nodes d nodes [] live there = All-nil (IsLive d)
live_nodes d nodes (i ∷ is) live there =
    All-cons (IsLive d) (node_at nodes i) (nodes_at nodes is) (node_live d nodes i live (All-head (λ j. j < length nodes) i is there)) (live_nodes d nodes is live (All-tail (λ j. j < length nodes) i is there))

stands_of : (d : Diagram) (ns : List ℕ) (w : ℕ) → length ns ≡ w → 2 ≤ w → w ≤ 128 → All (IsLive d) ns → StandsIn d ns
stands_of d ns w e least greatest live = record {
  some = omega (arith, e, least);
  few = omega (arith, e, greatest);
  live = λ i lt. All-get_or (IsLive d) ns i 0 lt live;
}

-- four integers of nodes that are there
pub quad_stands : (d : Diagram) (nodes : List Node) (bits : List ℕ) (f : Four) (q : SliceQuad) (w : ℕ) → All (λ (m : Node). IsLive d m.0) nodes → AreThere nodes bits → f.a ++ f.b ++ f.c ++ f.d ≡ nodes_at nodes bits
    → ((z : Coord) → length (nodes_of f z) ≡ w) → 2 ≤ w → w ≤ 128 → q.four ≡ f → q.kept.0 ≡ 0 → Stands d q
quad_stands d nodes bits f q w live there is wide least greatest e kept = record {
  integers = λ z. subst (λ (g : Four). StandsIn d (nodes_of g z)) (sym e) (stands_of d (nodes_of f z) w (wide z) least greatest (each z));
  kept = inl (omega (arith, kept));
}
  where
    all : All (IsLive d) (f.a ++ f.b ++ f.c ++ f.d)
    all = subst (All (IsLive d)) (sym is) (live_nodes d nodes bits live there)

    three : All (IsLive d) (f.a ++ f.b ++ f.c)
    three = all_left (IsLive d) (f.a ++ f.b ++ f.c) f.d all

    two : All (IsLive d) (f.a ++ f.b)
    two = all_left (IsLive d) (f.a ++ f.b) f.c three

    each : (z : Coord) → All (IsLive d) (nodes_of f z)
    each A = all_left (IsLive d) f.a f.b two
    each B = all_right (IsLive d) f.a f.b two
    each C = all_right (IsLive d) (f.a ++ f.b) f.c three
    each D = all_right (IsLive d) (f.a ++ f.b ++ f.c) f.d all
