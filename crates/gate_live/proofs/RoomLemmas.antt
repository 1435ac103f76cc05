-- Room for more is room for less.
use Rattle.std.proofs.Common.{ℕ, suc, arith}
use Rattle.gate_memory.specs.Builds.{HaveRoom}
use Rattle.gate_memory.specs.declared.builds.BuildTable.{BuildTable}
use Rattle.gate_memory.proofs.RoomLemmas.{builds_fewer}
use Rattle.gate_live.specs.HeldBuilds.{HaveBuildRoom}
use Rattle.gate_live.specs.HeldPlans.{HavePlanRoom}
use Rattle.gate_live.specs.declared.held_builds.HeldBuilds.{HeldBuilds}
use Rattle.gate_live.specs.declared.held_plans.HeldPlans.{HeldPlans}

-- for builds
pub table_room_one : (n : ℕ) (t : BuildTable) → HaveRoom (suc n) t → HaveRoom 1 t
table_room_one n t room = builds_fewer (suc n) 1 t (omega arith) room

pub build_room_less : (n : ℕ) (h : HeldBuilds) → HaveBuildRoom (suc n) h → HaveBuildRoom n h
build_room_less n h room = builds_fewer (suc n) n h.table (omega arith) room

pub build_room_one : (n : ℕ) (h : HeldBuilds) → HaveBuildRoom (suc n) h → HaveBuildRoom 1 h
build_room_one n h room = builds_fewer (suc n) 1 h.table (omega arith) room

-- for plans
pub plan_room_less : (n : ℕ) (h : HeldPlans) → HavePlanRoom (suc n) h → HavePlanRoom n h
plan_room_less n h room = omega (arith, room)

pub plan_room_one : (n : ℕ) (h : HeldPlans) → HavePlanRoom (suc n) h → HavePlanRoom 1 h
plan_room_one n h room = omega (arith, room)
