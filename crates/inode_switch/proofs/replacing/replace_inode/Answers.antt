use Rattle.std.proofs.Common.{◌≡◌, ◌<◌, ◌∙◌, ap, subst, sym, List, ℕ, Bool}
use Rattle.std.specs.Prelude.{Option, Some, None, OnErr, if◌then◌else◌}
use Rattle.disk_model.specs.Images.{Torn}
use Rattle.pack_layout.specs.Layout.{area_length}
use Rattle.gate_switch.specs.Switch.{Piece}
use Rattle.gate_switch.specs.Switch.{IsStage, switched}
use Rattle.inode_switch.proofs.Outside.{stage_in_area}
use Rattle.pack_layout.specs.Layout.{slot_at, other_half}
use Rattle.inode_switch.specs.View.{IsOldOrNew, Replaced}
use Rattle.inode_switch.specs.Replace.{made_version, closing}
use Rattle.disk_model.proofs.Moments.{leaves_weaker, on_ok}
use Rattle.inode_switch.proofs.OldOrNew.{stage_view, switched_view}
use Rattle.gate_switch.specs.Cutting.{IsCut}
use Rattle.gate_switch.specs.Switch.{calls_of}
use Rattle.disk_model.proofs.Tells.{tells_few, on_err}
use Rattle.inode_switch.specs.Cutting.{IsCutReplacing}
use Rattle.inode_switch.proofs.Cutting.{cut_replacing}
use Rattle.inode_switch.proofs.replacing.replace_inode.Goals as goal

-- the gates as the switch was told them
same_stage : (pieces : List Piece) (old x : List ℕ) (gate gate' : ℕ) (shuts shuts' : Option ℕ) → gate ≡ gate' → shuts ≡ shuts' → IsStage pieces gate shuts old x → IsStage pieces gate' shuts' old x
same_stage pieces old x gate gate' shuts shuts' e f stage =
    subst (λ (o : Option ℕ). IsStage pieces gate' o old x) f (subst (λ (n : ℕ). IsStage pieces n shuts old x) e stage)

pub returns-clause-stages : goal.returns-clause-stages
returns-clause-stages g c =
    let old = (g.D.Disk.moment c.args.disk.now).seen in
    let pieces = g.P.PieceSource.pieces c.args.source.now in
    let base = c.args.base in
    let ino = c.args.ino in
    let half = c.args.half in
    let shuts : c.closing_place-old_gate.result ≡ closing base ino half old = c.closing_place-old_gate.ensures ∙ ap (λ (b : Bool). if b then Some (slot_at base ino (other_half half)) else None) c.requires.closes in
    leaves_weaker g.D.Disk.moment c.args.disk.now c.switch.new.disk (IsStage pieces c.slot_at-gate.result c.closing_place-old_gate.result old) (IsStage pieces (slot_at base ino half) (closing base ino half old) old)
    (λ x. same_stage pieces old x c.slot_at-gate.result (slot_at base ino half) c.closing_place-old_gate.result (closing base ino half old) c.slot_at-gate.ensures shuts)
    c.switch.ensures.any_moment

pub returns-clause-outside : goal.returns-clause-outside
returns-clause-outside g c =
    let old = (g.D.Disk.moment c.args.disk.now).seen in
    let pieces = g.P.PieceSource.pieces c.args.source.now in
    let base = c.args.base in
    let ino = c.args.ino in
    let half = c.args.half in
    let shuts : c.closing_place-old_gate.result ≡ closing base ino half old = c.closing_place-old_gate.ensures ∙ ap (λ (b : Bool). if b then Some (slot_at base ino (other_half half)) else None) c.requires.closes in
    leaves_weaker g.D.Disk.moment c.args.disk.now c.switch.new.disk (IsStage pieces c.slot_at-gate.result c.closing_place-old_gate.result old) (Torn base area_length old)
    (λ x stage. stage_in_area base ino half pieces old c.requires.may x
    (same_stage pieces old x c.slot_at-gate.result (slot_at base ino half) c.closing_place-old_gate.result (closing base ino half old) c.slot_at-gate.ensures shuts stage))
    c.switch.ensures.any_moment

pub returns-clause-done : goal.returns-clause-done
returns-clause-done g c =
    let old = (g.D.Disk.moment c.args.disk.now).seen in
    let pieces = g.P.PieceSource.pieces c.args.source.now in
    let base = c.args.base in
    let ino = c.args.ino in
    let half = c.args.half in
    let shuts : c.closing_place-old_gate.result ≡ closing base ino half old = c.closing_place-old_gate.ensures ∙ ap (λ (b : Bool). if b then Some (slot_at base ino (other_half half)) else None) c.requires.closes in
    on_ok c.switch.result _ ((g.D.Disk.moment c.switch.new.disk).seen ≡ switched pieces (slot_at base ino half) (closing base ino half old) old)
    (λ done. done ∙ ap (λ (n : ℕ). switched pieces n c.closing_place-old_gate.result old) c.slot_at-gate.ensures ∙ ap (λ (o : Option ℕ). switched pieces (slot_at base ino half) o old) shuts)
    c.switch.ensures.done

pub returns-clause-any_moment : goal.returns-clause-any_moment
returns-clause-any_moment g c =
    let old = (g.D.Disk.moment c.args.disk.now).seen in
    let pieces = g.P.PieceSource.pieces c.args.source.now in
    let base = c.args.base in
    let ino = c.args.ino in
    let half = c.args.half in
    let made = made_version base ino half pieces old in
    let shuts : c.closing_place-old_gate.result ≡ closing base ino half old = c.closing_place-old_gate.ensures ∙ ap (λ (b : Bool). if b then Some (slot_at base ino (other_half half)) else None) c.requires.closes in
    leaves_weaker g.D.Disk.moment c.args.disk.now c.switch.new.disk (IsStage pieces c.slot_at-gate.result c.closing_place-old_gate.result old) (IsOldOrNew base ino made old)
    (λ x stage. stage_view base ino half pieces old c.requires.may x
    (subst (λ (o : Option ℕ). IsStage pieces (slot_at base ino half) o old x) shuts
    (subst (λ (n : ℕ). IsStage pieces n c.closing_place-old_gate.result old x) c.slot_at-gate.ensures stage)))
    c.switch.ensures.any_moment

pub returns-clause-replaced : goal.returns-clause-replaced
returns-clause-replaced g c =
    let old = (g.D.Disk.moment c.args.disk.now).seen in
    let pieces = g.P.PieceSource.pieces c.args.source.now in
    let base = c.args.base in
    let ino = c.args.ino in
    let half = c.args.half in
    let made = made_version base ino half pieces old in
    let shuts : c.closing_place-old_gate.result ≡ closing base ino half old = c.closing_place-old_gate.ensures ∙ ap (λ (b : Bool). if b then Some (slot_at base ino (other_half half)) else None) c.requires.closes in
    on_ok c.switch.result _ (Replaced base ino made old (g.D.Disk.moment c.switch.new.disk).seen)
    (λ done. subst (λ (l : List ℕ). Replaced base ino made old l)
    (sym (done ∙ ap (λ (n : ℕ). switched pieces n c.closing_place-old_gate.result old) c.slot_at-gate.ensures ∙ ap (λ (o : Option ℕ). switched pieces (slot_at base ino half) o old) shuts))
    (switched_view base ino half pieces old c.requires.may))
    c.switch.ensures.done

pub returns-clause-cut : goal.returns-clause-cut
returns-clause-cut g c pages passed count told =
    let M = g.D.Disk.moment in
    let old = c.args.disk.now in
    let new = c.switch.new.disk in
    let seen = (M old).seen in
    let pieces = g.P.PieceSource.pieces c.args.source.now in
    let base = c.args.base in
    let ino = c.args.ino in
    let half = c.args.half in
    let gate = slot_at base ino half in
    let shuts : c.closing_place-old_gate.result ≡ closing base ino half seen = c.closing_place-old_gate.ensures ∙ ap (λ (b : Bool). if b then Some (slot_at base ino (other_half half)) else None) c.requires.closes in
    let few = subst (λ (o : Option ℕ). OnErr c.switch.result (passed < calls_of pieces o)) shuts (tells_few (calls_of pieces c.closing_place-old_gate.result) (M old).passing (M new).passing c.switch.result passed c.switch.ensures.tells told) in
    let cut = subst (λ (o : Option ℕ). OnErr c.switch.result (IsCut pieces gate o (M old).how passed seen (M new).left)) shuts
    (subst (λ (n : ℕ). OnErr c.switch.result (IsCut pieces n c.closing_place-old_gate.result (M old).how passed seen (M new).left)) c.slot_at-gate.ensures (c.switch.ensures.cut passed told)) in
    on_err c.switch.result _ _ (IsCutReplacing base ino half pieces pages (M old).how passed seen (M new).left)
    (λ lt is. cut_replacing base ino half pieces seen c.requires.may pages passed (M old).how (M new).left is count lt)
    few cut
