-- From the edits of the book below to those of a book that holds what is live.
use Rattle.std.proofs.Common.{◌≡◌, ◌≤◌, min, true, List, Option, Some, sym, subst, arith}
use Rattle.std.specs.Prelude.{◌&&◌, nat_le, option_map, IfSome, OnOk, OnErr, Result, Ok, Err}
use Rattle.std.proofs.lemmas.Bool.{and_parts}
use borrow.Author.Tests.{leb-true}
use Rattle.gate_types.specs.Counters.{Drawn, capped, last_number}
use Rattle.gate_types.specs.Forms.{are_counters_in_form}
use Rattle.gate_types.specs.Once.{Content}
use Rattle.gate_types.specs.Settings.{Settings}
use Rattle.gate_types.specs.Tables.{tables}
use Rattle.gate_types.specs.declared.edits.Edit.{Edit}
use Rattle.gate_book_trait.specs.Kept.{IsApplied}
use Rattle.gate_book_trait.specs.declared.fault.BookFault.{BookFault}
use Rattle.gate_live.specs.Live.{live_tables}
use Rattle.gate_live.specs.Held.{live_of}
use Rattle.gate_live.specs.Parts.{Agrees, Parts}
use Rattle.gate_live.specs.Both.{HoldsBoth}
use Rattle.gate_live.specs.declared.held.Held.{Held}
use Rattle.gate_live.specs.declared.live_book.LiveBook.{LiveBook}

-- what edits make of the book below they make of one that holds what is live of the content that then is
pub applied_over : {B : Type 0} {holds : B → Settings → Content → Type 0} {leaves : B → Settings → List Content → Type 0}
    (c : Settings) (x y : Content) (edits : List Edit) (old new : LiveBook B) (result : Result (Unit {0}) BookFault) →
    OnOk result (Agrees new.live c y) →
    IsApplied holds leaves old.book new.book c x edits y result →
    IsApplied (λ r k z. HoldsBoth holds r k z) (λ r k zs. leaves r.book k zs) old new c x edits y result
applied_over c x y edits old new (Ok done) after below = record {
  ok = record { below = below.ok; agrees = λ lawful. after };
  undamaged = below.undamaged;
  settled = below.settled;
  crash = below.crash;
}
applied_over c x y edits old new (Err f) after below = record {
  ok = tt;
  undamaged = below.undamaged;
  settled = below.settled;
  crash = below.crash;
}

-- what is held is live of a content that the book holds
pub held_is : (c : Settings) (x : Content) (p : Parts) (held : Option Held) (h : Held) → option_map live_of held ≡ p.tables → held ≡ Some h →
    Agrees p c x → live_of h ≡ live_tables (tables c x)
held_is c x p held h view e agrees =
    subst (λ o. IfSome (option_map live_of o) (λ v. v ≡ live_tables (tables c x))) e (subst (λ o. IfSome o (λ v. v ≡ live_tables (tables c x))) (sym view) agrees.tables)

-- ---- counters

-- counters in form are none above the last number
pub capped_form : (d : Drawn) → are_counters_in_form d ≡ true → capped d ≡ d
capped_form d e =
    let outer = and_parts (nat_le d.approval last_number && nat_le d.build last_number) (nat_le d.order last_number) e in
    let inner = and_parts (nat_le d.approval last_number) (nat_le d.build last_number) outer.0 in
    let a : d.approval ≤ last_number = leb-true d.approval last_number inner.0 in
    let b : d.build ≤ last_number = leb-true d.build last_number inner.1 in
    let o : d.order ≤ last_number = leb-true d.order last_number outer.1 in
    let approval : min d.approval last_number ≡ d.approval = omega (arith, a) in
    let build : min d.build last_number ≡ d.build = omega (arith, b) in
    let order : min d.order last_number ≡ d.order = omega (arith, o) in
    λ i. record { approval = approval i; build = build i; order = order i }

-- ---- edits

-- edits made in both, or in none, and what came of them told
pub applied_told : {B : Type 0} {holds : B → Settings → Content → Type 0} {leaves : B → Settings → List Content → Type 0}
    (c : Settings) (x y : Content) (edits : List Edit) (old new : LiveBook B) (between : Parts) (applied told : Result (Unit {0}) BookFault) → told ≡ applied →
    ((z : Content) → Agrees between c z → Agrees new.live c z) → OnOk applied (Agrees between c y) →
    IsApplied holds leaves old.book new.book c x edits y applied →
    IsApplied (λ r k z. HoldsBoth holds r k z) (λ r k zs. leaves r.book k zs) old new c x edits y told
applied_told {B} {holds} {leaves} c x y edits old new between applied told as_it_is still edited below =
    subst (IsApplied (λ r k z. HoldsBoth holds r k z) (λ r k zs. leaves r.book k zs) old new c x edits y) (sym as_it_is)
    (applied_over c x y edits old new applied (after applied edited) below)
  where
    after : (r : Result (Unit {0}) BookFault) → OnOk r (Agrees between c y) → OnOk r (Agrees new.live c y)
    after (Ok done) h = still y h
    after (Err f) h = tt

-- after a fault of the book below, which is told, both hold what they held
pub unchanged_told : {B : Type 0} (holds : B → Settings → Content → Type 0) (c : Settings) (x : Content) (old new : LiveBook B)
    (between : Parts) (applied told : Result (Unit {0}) BookFault) → told ≡ applied →
    ((z : Content) → Agrees between c z → Agrees new.live c z) → OnErr applied (between ≡ old.live) → Agrees old.live c x →
    OnErr applied (holds new.book c x) → OnErr told (HoldsBoth holds new c x)
unchanged_told holds c x old new between applied told as_it_is still same agrees below =
    subst (λ r. OnErr r (HoldsBoth holds new c x)) (sym as_it_is) (both applied same below)
  where
    both : (r : Result (Unit {0}) BookFault) → OnErr r (between ≡ old.live) → OnErr r (holds new.book c x) →
        OnErr r (HoldsBoth holds new c x)
    both (Ok done) h below = tt
    both (Err f) h below = record {
      below = below;
      agrees = λ lawful. still x (subst (λ p. Agrees p c x) (sym h) agrees);
    }

-- ---- reads
