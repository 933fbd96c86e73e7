-- How a call of a recursion ends, by how the calls for its two parts end.
use Rattle.std.proofs.Common.{◌≡◌, ◌⊎◌, ℕ, ◌+◌, ◌<◌, ◌∷◌, Some, None, Result, Ok, Err, IfOk, IfErr, inl, inr, refl, ◌∙◌, ap, arith}
use Rattle.diagram_model.specs.Functions.{Function, IsPrefixOf}
use Rattle.diagram_model.specs.Nodes.{IsLiveIn}
use Rattle.diagram_model.specs.Stores.{Diagram, IsLive, IsSound, Extends, IsChoice, AddsOnly, KeepsFunctions, from, function_of, counted, requested}
use Rattle.diagram_model.proofs.Growing.{extends_trans, functions_kept}
use Rattle.node_store.specs.declared.node.Node.{Node}
use Rattle.node_store.specs.declared.node.StoreStop.{StoreStop}
use Rattle.node_store.specs.declared.node.StoreStop.TheVariants.{OutOfMemory}
use Rattle.node_store.specs.Makes.{StopMeans}
use Rattle.diagram_ops.specs.declared.operands.Operands.{Operands}
use Rattle.diagram_ops.specs.declared.split.Split.{Split}
use Rattle.diagram_ops.specs.Bounds.{TakesAtMost}
use Rattle.diagram_ops.specs.Ends.{Answers, Stops}
use Rattle.diagram_ops.specs.Keeping.{IsPart, Keeps}
use Rattle.diagram_ops.specs.Made.{MakesOnly, StopIs}
use Rattle.diagram_ops.specs.Operands.{AreLive, depths}
use Rattle.diagram_ops.specs.Operations.{Operation, Results, result_of, IsResult, AreResults}
use Rattle.diagram_ops.specs.Taken.{Reading, IsMet, IsAmong, Takes, TakesAll}
use Rattle.diagram_ops.proofs.Calls.{Begins, KeepsOthers, PutsAs, some_none, low_live, low_falls, keeps_low, stop_low, high_live, high_falls, keeps_both, stop_high, still_none, both_made, keeps_refused, keeps_node, keeps_put_as, puts_one}
use Rattle.diagram_ops.proofs.Making.{makes_none, whole_missing}
use Rattle.diagram_ops.proofs.Readings.{IsRead}
use Rattle.diagram_ops.proofs.Results.{IsStep, same_store, result_on, step_result}
use Rattle.diagram_ops.proofs.Taking.{takes_none, takes_low, takes_both, takes_all, met_on, met_whole, one_more}

-- a call goes on to its parts: its operands and their split, and no result is kept for them
pub record Goes (op : Operation) (r : Reading) (d : Diagram) (at : Operands) (s : Split) (m0 : Results) : Type 0 where
  pub begins : Begins op d at s
  pub read : IsRead r d at s
  pub none : m0 at ≡ None

-- the node n of the whole is made in m, and not kept yet
pub record IsMade (op : Operation) (r : Reading) (d : Diagram) (at : Operands) (m : Diagram) (m0 m2 : Results) (s0 s3 n : ℕ) : Type 0 where
  pub keeps : Keeps op at d m m0 m2
  pub result : IsResult op m at n
  pub none : m2 at ≡ None
  pub takes : Takes (IsMet r d at) d m m0 s0 s3
  pub kept : (to : Operands) → IsAmong takes.met to → (to ≡ at) ⊎ ((i : ℕ) × (m2 to ≡ Some i))

-- the answer is there: no node is made, and no step is taken
pub answers_at_once : (op : Operation) (r : Reading) (d : Diagram) (at : Operands) (m0 : Results) (s n : ℕ) → IsSound d → AreResults op d m0 → IsResult op d at n → Answers op r at d d m0 m0 s s n
answers_at_once op r d at m0 s n sd results is = record {
  keeps = record { sound = sd; extends = same_store d; results = results; higher = λ to live less. refl; made = makes_none d (IsPart op d at); still = λ to i was. was };
  result = is;
  takes = takes_none (IsMet r d at) d m0 s;
}

module _ {op : Operation} {r : Reading} {d : Diagram} {at : Operands} {s : Split} {m0 : Results} (g : Goes op r d at s m0) where
  pub low_ready : AreLive d s.low
  low_ready = low_live op d at s g.begins

  pub low_less : depths d s.low < depths d at
  low_less = low_falls op d at s g.begins

  -- the call for the first part stopped
  pub low_stops : {e : Diagram} {m1 : Results} {s0 s1 : ℕ} {why : StoreStop} → Stops op r s.low d e m0 m1 s0 s1 why → Stops op r at d e m0 m1 s0 s1 why
  low_stops {e} {m1} {s0} {s1} {why} h = record {
    keeps = keeps_low op d at s g.begins e m0 m1 h.keeps;
    stop = stop_low op d at s g.begins e why h.stop;
    takes = takes_low op r d at s g.begins g.read e m0 s0 s1 h.takes;
  }

  -- the call for the first part answered
  module _ {e : Diagram} {m1 : Results} {s0 s1 low : ℕ} (first : Answers op r s.low d e m0 m1 s0 s1 low) where
    pub high_ready : AreLive e s.high
    high_ready = high_live op d at s g.begins e m0 m1 first.keeps

    pub high_less : depths e s.high < depths d at
    high_less = high_falls op d at s g.begins e m0 m1 first.keeps

    -- the call for the second part stopped
    pub high_stops : {k : Diagram} {m2 : Results} {s2 : ℕ} {why : StoreStop} → Stops op r s.high e k m1 m2 s1 s2 why → Stops op r at d k m0 m2 s0 s2 why
    high_stops {k} {m2} {s2} {why} h = record {
      keeps = keeps_both op d at s g.begins e m0 m1 first.keeps k m2 h.keeps;
      stop = stop_high op d at s g.begins e m0 m1 first.keeps k why h.stop;
      takes = takes_both op r d at s g.begins g.read e m0 m1 s0 s1 first.keeps first.takes k m2 s2 h.keeps h.takes;
    }

    -- it answered too
    module _ {k : Diagram} {m2 : Results} {s2 high : ℕ} (second : Answers op r s.high e k m1 m2 s1 s2 high) where
      pub parts_made : IsStep op d k at s low high
      parts_made = both_made op d at s g.begins e m0 m1 first.keeps k m2 low high second.keeps first.result second.result

      kept : Keeps op at d k m0 m2
      kept = keeps_both op d at s g.begins e m0 m1 first.keeps k m2 second.keeps

      taken : TakesAll (IsMet r d at) d k m0 m2 s0 s2
      taken = takes_all op r d at s g.begins g.read e m0 m1 s0 s1 first.keeps first.takes k m2 s2 second.keeps second.takes

      unmet : m2 at ≡ None
      unmet = still_none op d at s g.begins e m0 m1 first.keeps k m2 second.keeps g.none

      -- the store was asked for the node over both
      module _ {m : Diagram} {s3 : ℕ} (sm : IsSound m) (ext : Extends k m) (one : s3 ≡ s2 + 1) (asked : m.made ≡ counted k.made) where
        whole : Takes (IsMet r d at) d m m0 s0 s3
        whole = record {
          met = at ∷ taken.takes.met;
          once = (λ h. some_none (m2 at) (taken.kept at h).0 (taken.kept at h).1 unmet, taken.takes.once);
          fresh = λ to h. elim h [ inl e ↦ ap m0 e ∙ g.none | inr more ↦ taken.takes.fresh to more ];
          arise = λ to h. elim h [
            | inl e ↦ rw e (met_whole r d m at s g.begins.sound sm (extends_trans d k m kept.extends ext) g.begins.live g.read)
            | inr more ↦ met_on r d at k m to second.keeps.sound sm ext (taken.takes.arise to more)
          ];
          count = omega (arith, taken.takes.count, one);
          made = omega (arith, taken.takes.made, one_more k m asked);
        }

        pub node_stops : {why : StoreStop} → m ≡ requested k → StopMeans k s.var low high why → Stops op r at d m m0 m2 s0 s3 why
        node_stops {why} refused stop = record {
          keeps = keeps_refused op at d k m m0 m2 kept sm ext refused;
          stop = whole_missing op d k m at s low high parts_made refused why stop;
          takes = whole;
        }

        pub node_made : {n : ℕ} → IsLiveIn m.slots (from k.order s.var) n → IsChoice m s.var low high n → AddsOnly k m n → IsMade op r d at m m0 m2 s0 s3 n
        unfolding whole
        node_made {n} live choice only =
            let is = step_result op d k m at s low high n parts_made sm ext (extends_trans d k m kept.extends ext) live choice in
            record {
              keeps = keeps_node op at d k m n m0 m2 g.begins.sound g.begins.live kept sm ext is only;
              result = is;
              none = unmet;
              takes = whole;
              kept = λ to h. elim h [ inl e ↦ inl e | inr more ↦ inr (taken.kept to more) ];
            }

module _ {op : Operation} {r : Reading} {d : Diagram} {at : Operands} {m : Diagram} {m0 m2 : Results} {s0 s3 n : ℕ} (h : IsMade op r d at m m0 m2 s0 s3 n) (m3 : Results) where
  -- the result of the whole was not kept for want of memory
  pub unkept : m3 ≡ m2 → Stops op r at d m m0 m3 s0 s3 OutOfMemory
  unkept same = record { keeps = rw same h.keeps; stop = tt; takes = h.takes }

  -- it is kept, for other operands too
  pub kept_as : m3 at ≡ Some n → ((to : Operands) → PutsAs op d m at n m2 m3 to) → Answers op r at d m m0 m3 s0 s3 n
  kept_as here puts = record {
    keeps = keeps_put_as op at d m n m0 m2 m3 h.keeps puts;
    result = h.result;
    takes = record {
      takes = h.takes;
      kept = λ to i. elim (h.kept to i) [
        | inl e ↦ (n, ap m3 e ∙ here)
        | inr was ↦ elim (puts to) [ inl same ↦ (was.0, same ∙ was.1) | inr put ↦ (n, put.now) ]
      ];
    };
  }

  pub kept_alone : m3 at ≡ Some n → KeepsOthers at m2 m3 → Answers op r at d m m0 m3 s0 s3 n
  kept_alone here others = kept_as here (puts_one op d m at n m2 m3 h.result h.none here others)

-- What callers are told: f is the operation's result, and n bounds the steps.
pub record IsEnded (f : Function) (n : ℕ) (d e : Diagram) (s t : ℕ) (o : Result Node StoreStop) : Type 0 where
  pub sound : IsSound e
  pub extends : Extends d e
  pub functions : KeepsFunctions d e
  pub live : IfOk o (λ i. IsLive e i.0)
  pub denotes : IfOk o (λ i. function_of e i.0 ≡ f)
  pub made : MakesOnly d e (IsPrefixOf d.order f)
  pub stop : IfErr o (StopIs e (IsPrefixOf d.order f))
  pub steps : TakesAtMost n d e s t

pub ended : (op : Operation) (r : Reading) (at : Operands) (d e : Diagram) (m0 m1 : Results) (s t n : ℕ) (o : Result Node StoreStop) → IsSound d → AreLive d at → (IsSound e → Extends d e → Takes (IsMet r d at) d e m0 s t → TakesAtMost n d e s t) → IfOk o (λ i. Answers op r at d e m0 m1 s t i.0) → IfErr o (Stops op r at d e m0 m1 s t) → IsEnded (result_of op d at) n d e s t o
ended op r at d e m0 m1 s t n (Ok i) sd live few h none = record {
  sound = h.keeps.sound;
  extends = h.keeps.extends;
  functions = functions_kept d e sd h.keeps.sound h.keeps.extends;
  live = h.result.live;
  denotes = h.result.denotes ∙ result_on op d e at sd h.keeps.sound h.keeps.extends live;
  made = h.keeps.made;
  stop = tt;
  steps = few h.keeps.sound h.keeps.extends h.takes.takes;
}
ended op r at d e m0 m1 s t n (Err why) sd live few none h = record {
  sound = h.keeps.sound;
  extends = h.keeps.extends;
  functions = functions_kept d e sd h.keeps.sound h.keeps.extends;
  live = tt;
  denotes = tt;
  made = h.keeps.made;
  stop = h.stop;
  steps = few h.keeps.sound h.keeps.extends h.takes;
}
