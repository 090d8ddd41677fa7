-- The stages that a crash during a switch may leave.
use Rattle.std.proofs.Common.{◌≡◌, inl, inr, ℕ, List, Option, Some, sym, subst}
use Rattle.disk_model.specs.Images.{Torn}
use Rattle.disk_model.specs.Disk.{Moment, Goes, Only}
use Rattle.gate_switch.specs.Switch.{Piece}
use Rattle.disk_model.specs.Moments.{LeavesOnly}
use Rattle.gate_switch.specs.Switch.{TornIn, TornGate, written, opened, IsStage}
use Rattle.disk_model.proofs.Moments.{leaves_start, leaves_more, from_only}
use Rattle.gate_switch.proofs.Pieces.{torn_stays}

module _ {D : Type 0} (moment : D → Moment) (pieces : List Piece) (gate : ℕ) (old_gate : Option ℕ) (seen : List ℕ) where
  -- while the pieces are written
  pub stage_one : (old mid : D) (given : List Piece) → given ≡ pieces → Only seen (moment old).may_leave → ((c : List ℕ) → (moment old).may_have_left (moment old).now c → (moment old).may_leave c) → Goes (TornIn given) (moment old) (moment mid)
      → LeavesOnly (moment old) (moment mid) (IsStage pieces gate old_gate seen)
  stage_one old mid given same only only_now goes =
      leaves_more moment (TornIn pieces) old old mid (IsStage pieces gate old_gate seen)
      (leaves_start moment old (IsStage pieces gate old_gate seen) (λ c left. inl (subst (λ (x : List ℕ). TornIn pieces seen x) (sym (only c (only_now c left))) (torn_stays pieces seen))))
      (subst (λ (l : List Piece). Goes (TornIn l) (moment old) (moment mid)) same goes)
      (λ c after. inl (from_only moment (TornIn pieces) old seen c only after))

  -- while the gate opens
  pub stage_two : (old mid new : D) (read : List ℕ) → read ≡ written seen pieces → Only read (moment mid).may_leave → LeavesOnly (moment old) (moment mid) (IsStage pieces gate old_gate seen) → Goes (Torn gate 1) (moment mid) (moment new)
      → LeavesOnly (moment old) (moment new) (IsStage pieces gate old_gate seen)
  stage_two old mid new read is only so_far goes =
      leaves_more moment (Torn gate 1) old mid new (IsStage pieces gate old_gate seen) so_far goes
      (λ c after. inr (inl (subst (λ (x : List ℕ). Torn gate 1 x c) is (from_only moment (Torn gate 1) mid read c only after))))

  -- while the old gate closes
  pub stage_three : (old mid new : D) (read : List ℕ) (closing : ℕ) → old_gate ≡ Some closing → read ≡ opened gate (written seen pieces) → Only read (moment mid).may_leave → LeavesOnly (moment old) (moment mid) (IsStage pieces gate old_gate seen) → Goes (Torn closing 1) (moment mid) (moment new)
      → LeavesOnly (moment old) (moment new) (IsStage pieces gate old_gate seen)
  stage_three old mid new read closing some is only so_far goes =
      leaves_more moment (Torn closing 1) old mid new (IsStage pieces gate old_gate seen) so_far goes
      (λ c after. inr (inr (subst (λ (o : Option ℕ). TornGate o (opened gate (written seen pieces)) c) (sym some) (subst (λ (x : List ℕ). Torn closing 1 x c) is (from_only moment (Torn closing 1) mid read c only after)))))
