-- Two variables to be exchanged where controls hold, with their nodes, and what is made for them.
use Rattle.std.specs.Prelude.{ℕ, ◌<◌, true, false, List, length}
use Rattle.diagram_model.specs.Stores.{Diagram}
use Rattle.diagram_ops.specs.Diagrams.{variable_of}
use Rattle.diagram_ops.specs.Made.{Property, IsPrefixOfSome}
use Rattle.slice_vec.specs.Digits.{Digits}
use Rattle.slice_vec.specs.Growing.{Denotes}
use Rattle.slice_vec.specs.Slices.{digits_of}
use Rattle.slice_quad.specs.declared.crossing.Crossing.{Crossing}
use Rattle.slice_quad.specs.declared.crossing.Selected.{Selected}
use Rattle.slice_quad.specs.declared.four.Four.{Four}
use Rattle.slice_quad.specs.Exchange.{Exchange, by_second, exchange_digits, exchange_functions, crossing_functions, exchange_work}
use Rattle.slice_quad.specs.Fourfold.{Functions, Gives}
use Rattle.slice_quad.specs.Fours.{digits_in, true_places, AreIntegers}
use Rattle.slice_quad.specs.Mix.{all_true}
use Rattle.slice_quad.specs.Terms.{IsOf}

-- the exchange without its nodes
abbrev pub exchange_of : Crossing → Exchange
exchange_of c = record { controls = true_places 0 c.controls; first = c.first; second = c.second }

-- the nodes are those of the two variables, and of "all controls are true"
pub record AreCrossed (d : Diagram) (c : Crossing) : Type 0 where
  pub first : Denotes d c.is_first.0 (variable_of c.first)
  pub second : Denotes d c.is_second.0 (variable_of c.second)
  pub all : Denotes d c.all.0 (all_true (true_places 0 c.controls))

-- a function that arises from one of those of a coordinate's exchange, by fixing a prefix of the order
abbrev pub InExchange : Diagram → Exchange → List ℕ → Property
InExchange d e xs = IsPrefixOfSome d.order (exchange_functions (length xs) e (digits_of d xs))

-- the same for a variable of the exchange, or a conjunction of its first controls
abbrev pub IsCrossing : Diagram → Exchange → Property
IsCrossing d e = IsPrefixOfSome d.order (crossing_functions e)

-- the same for any of the exchange's functions
abbrev pub IsExchange : Diagram → Exchange → Four → Property
IsExchange d e q = IsPrefixOfSome d.order (exchange_work (length q.a) e (digits_in d q))

-- what an exchange takes
pub record IsCrossable (d : Diagram) (c : Crossing) (q : Four) : Type 0 where
  pub nodes : AreCrossed d c
  pub whole : AreIntegers d (length q.a) q
  pub first : c.first < length d.order
  pub second : c.second < length d.order

-- the selections by the second variable, of the bits a
pub record AreSelected (d : Diagram) (w : ℕ) (e : Exchange) (a : Digits) (r : Selected) : Type 0 where
  pub clear : IsOf d w (by_second e a false) r.clear
  pub set : IsOf d w (by_second e a true) r.set

-- the functions for which an exchange makes nodes
abbrev pub exchange_made : Exchange → Four → Functions
exchange_made e q d = exchange_work (length q.a) e (digits_in d q)

-- a coordinate is the exchanged one
abbrev pub GivesCrossed : Exchange → Four → Gives
GivesCrossed e q u z w ns = IsOf w (length q.a) (exchange_digits e (digits_in u q z)) ns
