use Rattle.std.proofs.Common.{◌≡◌, ℕ, [], length}
use Rattle.node_store.specs.Stored.{table_at}
use Rattle.node_store.proofs.slots.Slots.new.Given as goal

abbrev pub invariant-loop : goal.invariant-loop
invariant-loop l = record {
  count : length l.tables.items ≡ l.counter;
  empty : (v : ℕ) → (table_at l.tables.items v).entries ≡ [];
}
