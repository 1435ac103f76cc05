-- When a change needs another.
use Rattle.std.proofs.Common.{◌≡◌, ℕ, List, true, ◌&&◌, eqb, sym}
use Rattle.std.proofs.lemmas.Bool.{and_from, and_parts, eq-eqb, eqb-true}
use Rattle.sqlite_rules.specs.Lists.{Has}
use Rattle.sqlite_rules.proofs.ListLemmas.{some_from, some_has}
use Rattle.gate_schema.specs.Rows.{NeedRow}
use Rattle.gate_schema.specs.Shown.{needs_among}

-- a change needs another where one of the needs says so
pub needs_by : (needs : List NeedRow) (n : NeedRow) (needed number : ℕ) → Has needs n → eqb n.needed needed ≡ true → eqb number n.change ≡ true → needs_among needs needed number ≡ true
needs_by needs n needed number h other own =
    some_from (λ (m : NeedRow). eqb m.change number && eqb m.needed needed) needs n h (and_from _ _ (eq-eqb n.change number (sym (eqb-true number n.change own))) other)

-- and one says so where it does
pub need_of : (needs : List NeedRow) (needed number : ℕ) → needs_among needs needed number ≡ true → (n : NeedRow) × Has needs n × (eqb n.needed needed ≡ true) × (eqb number n.change ≡ true)
need_of needs needed number is =
    let found = some_has (λ (m : NeedRow). eqb m.change number && eqb m.needed needed) needs is in
    let both = and_parts _ _ found.2 in
    (found.0, found.1, both.1, eq-eqb number found.0.change (sym (eqb-true found.0.change number both.0)))
