-- What a call keeps, put together from what its parts keep.
use Rattle.std.proofs.Common.{◌≡◌, ◌≢◌, ◌⊎◌, ℕ, ◌<◌, ◌≤◌, true, false, Option, Some, None, inl, inr, sym, ◌∙◌, ap, arith}
use Rattle.std.proofs.lemmas.Bool.{cases_eq}
use Rattle.diagram_model.specs.Functions.{Function}
use Rattle.diagram_model.specs.Nodes.{parts_of}
use Rattle.diagram_model.specs.Stores.{Diagram, IsSound, Extends, AddsOnly, requested}
use Rattle.diagram_model.proofs.Growing.{extends_trans}
use Rattle.node_store.specs.declared.node.StoreStop.{StoreStop}
use Rattle.diagram_ops.specs.declared.operands.Operands.{Operands}
use Rattle.diagram_ops.specs.declared.split.Split.{Split}
use Rattle.diagram_ops.specs.Keeping.{IsPart, Keeps}
use Rattle.diagram_ops.specs.Made.{StopIs}
use Rattle.diagram_ops.specs.Operands.{AreLive, depths, IsSplit}
use Rattle.diagram_ops.specs.Operations.{Operation, Results, IsResult}
use Rattle.diagram_ops.proofs.Results.{Fixes, IsParted, IsStep, same_store, lives_on, below_live, is_result_on, results_on, depths_on, parted}
use Rattle.diagram_ops.proofs.Splits.{three}
use Rattle.diagram_ops.proofs.Making.{makes_then, makes_wider, stop_wider, part_of_whole, whole_made}

-- a call begins: what is known of its operands and their split
pub record Begins (op : Operation) (d : Diagram) (at : Operands) (s : Split) : Type 0 where
  pub sound : IsSound d
  pub live : AreLive d at
  pub parted : IsParted op d at s

-- an operation that goes through the topmost variable
pub begins : (op : Operation) (d : Diagram) (at : Operands) (s : Split) → IsSound d → AreLive d at → IsSplit d at s → Fixes op s.var → Begins op d at s
begins op d at s sound live split fixes = record { sound = sound; live = live; parted = parted op d at s sound split fixes }

module _ (op : Operation) (d : Diagram) (at : Operands) (s : Split) (b : Begins op d at s) where
  pub low_live : AreLive d s.low
  low_live = below_live d s.var s.low b.parted.low.above

  pub low_falls : depths d s.low < depths d at
  low_falls = b.parted.low.falls

  pub high_live_d : AreLive d s.high
  high_live_d = below_live d s.var s.high b.parted.high.above

  high_falls_d : depths d s.high < depths d at
  high_falls_d = b.parted.high.falls

  low_part : (p : Function) → IsPart op d s.low p → IsPart op d at p
  low_part p = part_of_whole op d d at s false s.low b.sound b.sound (same_store d) b.parted b.parted.low p

  -- the first part alone
  pub keeps_low : (e : Diagram) (m0 m1 : Results) → Keeps op s.low d e m0 m1 → Keeps op at d e m0 m1
  keeps_low e m0 m1 k = record {
    sound = k.sound;
    extends = k.extends;
    results = k.results;
    higher = λ to live less. k.higher to live (omega (arith, less, low_falls));
    made = makes_wider d e (IsPart op d s.low) (IsPart op d at) low_part k.made;
    still = k.still;
  }

  pub stop_low : (e : Diagram) (r : StoreStop) → StopIs e (IsPart op d s.low) r → StopIs e (IsPart op d at) r
  stop_low e r stop = stop_wider e (IsPart op d s.low) (IsPart op d at) low_part r stop

  -- the second part, in the store that the first one left
  module _ (e : Diagram) (m0 m1 : Results) (first : Keeps op s.low d e m0 m1) where
    pub high_live : AreLive e s.high
    high_live = lives_on d e s.high first.extends high_live_d

    pub high_falls : depths e s.high < depths d at
    high_falls = omega (arith, depths_on d e s.high b.sound first.sound first.extends high_live_d, high_falls_d)

    high_part : (p : Function) → IsPart op e s.high p → IsPart op d at p
    high_part p = part_of_whole op d e at s true s.high b.sound first.sound first.extends b.parted b.parted.high p

    -- what is kept for nodes that stand as high as the whole, or higher
    both_higher : (k : Diagram) (m2 : Results) → Keeps op s.high e k m1 m2 → (to : Operands) → AreLive d to → depths d at ≤ depths d to → m2 to ≡ m0 to
    both_higher k m2 second to live le =
        let same = depths_on d e to b.sound first.sound first.extends live in
        second.higher to (lives_on d e to first.extends live) (omega (arith, same, high_falls, le)) ∙ first.higher to live (omega (arith, low_falls, le))

    pub keeps_both : (k : Diagram) (m2 : Results) → Keeps op s.high e k m1 m2 → Keeps op at d k m0 m2
    keeps_both k m2 second = record {
      sound = second.sound;
      extends = extends_trans d e k first.extends second.extends;
      results = second.results;
      higher = λ to live less. both_higher k m2 second to live (omega (arith, less));
      made = makes_then d e k (IsPart op d at) first.sound second.sound second.extends
          (makes_wider d e (IsPart op d s.low) (IsPart op d at) low_part first.made)
          (makes_wider e k (IsPart op e s.high) (IsPart op d at) high_part second.made);
      still = λ to n is. second.still to n (first.still to n is);
    }

    pub stop_high : (k : Diagram) (r : StoreStop) → StopIs k (IsPart op e s.high) r → StopIs k (IsPart op d at) r
    stop_high k r stop = stop_wider k (IsPart op e s.high) (IsPart op d at) high_part r stop

    -- nothing is kept for the whole by its parts
    pub still_none : (k : Diagram) (m2 : Results) → Keeps op s.high e k m1 m2 → m0 at ≡ None → m2 at ≡ None
    still_none k m2 second none = both_higher k m2 second at b.live (omega arith) ∙ none

    -- both parts are made
    pub both_made : (k : Diagram) (m2 : Results) (low high : ℕ) → Keeps op s.high e k m1 m2 → IsResult op e s.low low → IsResult op k s.high high → IsStep op d k at s low high
    both_made k m2 low high second of_low of_high = record {
      sound_d = b.sound;
      sound_e = second.sound;
      extends = extends_trans d e k first.extends second.extends;
      live = b.live;
      parted = b.parted;
      of_low = is_result_on op e k s.low low first.sound second.sound second.extends of_low;
      of_high = of_high;
    }

-- the node of the whole is refused
pub keeps_refused : (op : Operation) (at : Operands) (d k m : Diagram) (m0 m2 : Results) → Keeps op at d k m0 m2 → IsSound m → Extends k m → m ≡ requested k → Keeps op at d m m0 m2
keeps_refused op at d k m m0 m2 kept sm ext same = record {
  sound = sm;
  extends = extends_trans d k m kept.extends ext;
  results = results_on op k m m2 kept.sound sm ext kept.results;
  higher = kept.higher;
  made = makes_then d k m (IsPart op d at) kept.sound sm ext kept.made (λ n p is. inl (sym (ap (λ (e : Diagram). parts_of e.slots n) same) ∙ is));
  still = kept.still;
}

-- the node of the whole is made
pub keeps_node : (op : Operation) (at : Operands) (d k m : Diagram) (n : ℕ) (m0 m2 : Results) → IsSound d → AreLive d at → Keeps op at d k m0 m2 → IsSound m → Extends k m → IsResult op m at n → AddsOnly k m n → Keeps op at d m m0 m2
keeps_node op at d k m n m0 m2 sd live kept sm ext is only =
    let dm = extends_trans d k m kept.extends ext in
    record {
      sound = sm;
      extends = dm;
      results = results_on op k m m2 kept.sound sm ext kept.results;
      higher = kept.higher;
      made = makes_then d k m (IsPart op d at) kept.sound sm ext kept.made (whole_made op d k m at n sd sm dm live is only);
      still = kept.still;
    }

pub cases_at : (at to : Operands) → ((to.f ≡ at.f) × (to.g ≡ at.g) × (to.h ≡ at.h)) ⊎ ((to.f ≢ at.f) ⊎ ((to.g ≢ at.g) ⊎ (to.h ≢ at.h)))
cases_at at to =
    elim (cases_eq to.f at.f) [
      | inl p ↦ elim (cases_eq to.g at.g) [
        | inl q ↦ elim (cases_eq to.h at.h) [ inl r ↦ inl (p, q, r) | inr r ↦ inr (inr (inr r)) ]
        | inr q ↦ inr (inr (inl q))
      ]
      | inr p ↦ inr (inl p)
    ]

pub operands_eq : (at to : Operands) → (to.f ≡ at.f) × (to.g ≡ at.g) × (to.h ≡ at.h) → to ≡ at
operands_eq at to e = ap (λ k. three k to.g to.h) e.0 ∙ ap (λ k. three at.f k to.h) e.1 ∙ ap (λ k. three at.f at.g k) e.2

-- what is kept for other triples stays
abbrev pub KeepsOthers : Operands → Results → Results → Type 0
KeepsOthers at old new = (to : Operands) → (to.f ≢ at.f) ⊎ ((to.g ≢ at.g) ⊎ (to.h ≢ at.h)) → new to ≡ old to

pub some_number : (m n : ℕ) → Some m ≡ Some n → m ≡ n
some_number m n e = cc

pub some_none : (o : Option ℕ) (n : ℕ) → o ≡ Some n → o ≡ None → ⊥
some_none None n p q = absurd (cc)
some_none (Some m) n p q = absurd (cc)

-- the result n of the whole is put for other operands too
pub record PutsHere (op : Operation) (d m : Diagram) (at : Operands) (n : ℕ) (old new : Results) (to : Operands) : Type 0 where
  pub now : new to ≡ Some n
  pub none : old to ≡ None
  pub is : IsResult op m to n
  pub deep : depths d to ≡ depths d at

-- nothing changes for the operands, or the result is put
abbrev pub PutsAs : Operation → Diagram → Diagram → Operands → ℕ → Results → Results → Operands → Type 0
PutsAs op d m at n old new to = (new to ≡ old to) ⊎ PutsHere op d m at n old new to

-- a result that is put for its operands alone
pub puts_one : (op : Operation) (d m : Diagram) (at : Operands) (n : ℕ) (old new : Results) → IsResult op m at n → old at ≡ None → new at ≡ Some n → KeepsOthers at old new → (to : Operands) → PutsAs op d m at n old new to
puts_one op d m at n old new is none here others to =
    elim (cases_at at to) [
      | inl e ↦
          let same : to ≡ at = operands_eq at to e in
          inr (record { now = ap new same ∙ here; none = ap old same ∙ none; is = rw same is; deep = ap (depths d) same })
      | inr ne ↦ inl (others to ne)
    ]

-- the result of the whole is kept
pub keeps_put_as : (op : Operation) (at : Operands) (d m : Diagram) (n : ℕ) (m0 m2 m3 : Results) → Keeps op at d m m0 m2 → ((to : Operands) → PutsAs op d m at n m2 m3 to) → Keeps op at d m m0 m3
keeps_put_as op at d m n m0 m2 m3 kept puts = record {
  sound = kept.sound;
  extends = kept.extends;
  results = λ to i there.
      elim (puts to) [
        | inl same ↦ kept.results to i (sym same ∙ there)
        | inr put ↦
            let one : i ≡ n = some_number i n (sym there ∙ put.now) in
            rw one put.is
      ];
  higher = λ to live less.
      elim (puts to) [
        | inl same ↦ same ∙ kept.higher to live less
        | inr put ↦ absurd (omega (arith, less, put.deep))
      ];
  made = kept.made;
  still = λ to i was.
      let there = kept.still to i was in
      elim (puts to) [
        | inl same ↦ same ∙ there
        | inr put ↦ absurd (some_none (m2 to) i there put.none)
      ];
}
