use Rattle.std.proofs.Common.{◌≡◌, ◌<◌, ◌∙◌, List, ℕ, length, ap, subst}
use Rattle.std.specs.Prelude.{is_some, Ok, Err, OnErr}
use Rattle.disk_model.specs.Cut.{Cut}
use Rattle.disk_model.specs.Disk.{Passing}
use Rattle.disk_model.specs.Moments.{TellsMany}
use Rattle.disk_model.specs.declared.disk.DiskFault.{DiskFault}
use Rattle.site_packs.specs.Committing.{IsFit, blocks_over, calls_of, commit_answer, commit_calls, copy_made as packed, room}
use Rattle.site_packs.specs.Cutting.{IsCut, HasSize as HasSizeIn}
use Rattle.store_instances.proofs.Counts.{cut_err, size_err, tells_err, tells_ok}
use Rattle.store_instances.specs.declared.instance.StoreInstance.TheInside.{Inside}
use Rattle.role_steps.specs.declared.instances.Instance.{Instance}
use Rattle.site_packs.specs.declared.faults.CommitFault.TheVariants as commit
use Rattle.store_instances.specs.Fitting.{CanStore}
use Rattle.store_instances.proofs.Fits.{as_refused, refused_commit, store_full, store_unfit}
use Rattle.site_packs.specs.Packs.{copy_at, groups_of}
use Rattle.site_packs.specs.Copies.{copies_on}
use Rattle.store_instances.proofs.instance.StoreInstance.write.Goals as goal

pub returns-in-Err-clause-unfit : goal.returns-in-Err-clause-unfit
returns-in-Err-clause-unfit g c =
    let image : List ℕ = (g.D.Disk.moment c.args.disk.now).seen in
    let q : Instance = record { inst = record { us = c.self.inside.us; serial = c.self.inside.serial }; file = c.self.inside.file; mode = c.self.inside.mode; set = c.self.inside.set; kind = c.self.inside.kind; vector = c.self.inside.vector; parents = c.self.inside.parents; size = c.self.inside.size; work = c.self.inside.work; answered = c.self.inside.answered; stage = c.self.inside.stage } in
    let content : c.as_slice-content.result.now ≡ q.work.content = c.as_slice-content.ensures.value ∙ ap (λ (s : Inside). s.work.content) c.self-inside.view_is in
    let changed : c.as_slice-changed.result.now ≡ q.work.changed = c.as_slice-changed.ensures ∙ ap (λ (s : Inside). s.work.changed) c.self-inside.view_is in
    refused_commit {T = Unit {0}} (CanStore (groups_of c.args.packs.now) (copies_on (groups_of c.args.packs.now) image) c.args.self.now c.args.vector.now c.args.stamp) c.in-Err.refused c.from.result c.from.ensures
    (λ e can. store_full c.args.packs.now image c.args.self.now q c.args.vector.now c.args.stamp c.as_slice-content.result.now c.as_slice-changed.result.now c.self.view_is content changed
    (subst (λ (s : Inside). room c.args.packs.now image s.file.group < length c.as_slice-changed.result.now) c.self-inside.view_is (c.in-Err.ensures.no_space.0 (as_refused c.in-Err.refused commit.NoSpace e))) can)
    (λ e can. store_unfit c.args.packs.now image c.args.self.now q c.args.vector.now c.args.stamp c.as_slice-content.result.now c.as_slice-changed.result.now c.self.view_is content changed
    (subst (λ (s : Inside). IsFit c.args.packs.now image s.file (record { kind = s.kind; set = s.set; stamp = c.args.stamp; vector = c.args.vector.now }) c.as_slice-content.result.now c.as_slice-changed.result.now → ⊥) c.self-inside.view_is (c.in-Err.ensures.unfit (as_refused c.in-Err.refused commit.Unfit e))) can)

pub returns-in-Ok-clause-tells : goal.returns-in-Ok-clause-tells
returns-in-Ok-clause-tells g c =
    let image : List ℕ = (g.D.Disk.moment c.args.disk.now).seen in
    let q : Instance = record { inst = record { us = c.self.inside.us; serial = c.self.inside.serial }; file = c.self.inside.file; mode = c.self.inside.mode; set = c.self.inside.set; kind = c.self.inside.kind; vector = c.self.inside.vector; parents = c.self.inside.parents; size = c.self.inside.size; work = c.self.inside.work; answered = c.self.inside.answered; stage = c.self.inside.stage } in
    let content : c.as_slice-content.result.now ≡ q.work.content = c.as_slice-content.ensures.value ∙ ap (λ (s : Inside). s.work.content) c.self-inside.view_is in
    let changed : c.as_slice-changed.result.now ≡ q.work.changed = c.as_slice-changed.ensures ∙ ap (λ (s : Inside). s.work.changed) c.self-inside.view_is in
    let old : Passing = (g.D.Disk.moment c.args.disk.now).passing in
    let new : Passing = (g.D.Disk.moment c.commit.new.disk).passing in
    tells_ok c.args.packs.now image c.args.self.now q c.args.vector.now c.args.stamp c.as_slice-content.result.now c.as_slice-changed.result.now c.self.view_is content changed old new
    (subst (λ (s : Inside). TellsMany {T = Unit {0}} {E = DiskFault} (calls_of (blocks_over (copy_at c.args.packs.now image s.file) c.as_slice-content.result.now c.as_slice-changed.result.now) (is_some (copy_at c.args.packs.now image s.file))) old new (Ok tt)) c.self-inside.view_is c.in-Ok.ensures.tells)

pub returns-in-Err-clause-tells : goal.returns-in-Err-clause-tells
returns-in-Err-clause-tells g c =
    let image : List ℕ = (g.D.Disk.moment c.args.disk.now).seen in
    let q : Instance = record { inst = record { us = c.self.inside.us; serial = c.self.inside.serial }; file = c.self.inside.file; mode = c.self.inside.mode; set = c.self.inside.set; kind = c.self.inside.kind; vector = c.self.inside.vector; parents = c.self.inside.parents; size = c.self.inside.size; work = c.self.inside.work; answered = c.self.inside.answered; stage = c.self.inside.stage } in
    let content : c.as_slice-content.result.now ≡ q.work.content = c.as_slice-content.ensures.value ∙ ap (λ (s : Inside). s.work.content) c.self-inside.view_is in
    let changed : c.as_slice-changed.result.now ≡ q.work.changed = c.as_slice-changed.ensures ∙ ap (λ (s : Inside). s.work.changed) c.self-inside.view_is in
    let old : Passing = (g.D.Disk.moment c.args.disk.now).passing in
    let new : Passing = (g.D.Disk.moment c.commit.new.disk).passing in
    tells_err c.args.packs.now image c.args.self.now q c.args.vector.now c.args.stamp c.as_slice-content.result.now c.as_slice-changed.result.now c.self.view_is content changed c.in-Err.refused c.from.result c.from.ensures old new
    (subst (λ (s : Inside). TellsMany {T = Unit {0}} {E = DiskFault} (commit_calls {T = Unit {0}} (blocks_over (copy_at c.args.packs.now image s.file) c.as_slice-content.result.now c.as_slice-changed.result.now) (is_some (copy_at c.args.packs.now image s.file)) (Err c.in-Err.refused)) old new (commit_answer {T = Unit {0}} (Err c.in-Err.refused))) c.self-inside.view_is c.in-Err.ensures.tells)

pub returns-in-Err-clause-cut : goal.returns-in-Err-clause-cut
returns-in-Err-clause-cut g c passed here =
    let image : List ℕ = (g.D.Disk.moment c.args.disk.now).seen in
    let q : Instance = record { inst = record { us = c.self.inside.us; serial = c.self.inside.serial }; file = c.self.inside.file; mode = c.self.inside.mode; set = c.self.inside.set; kind = c.self.inside.kind; vector = c.self.inside.vector; parents = c.self.inside.parents; size = c.self.inside.size; work = c.self.inside.work; answered = c.self.inside.answered; stage = c.self.inside.stage } in
    let content : c.as_slice-content.result.now ≡ q.work.content = c.as_slice-content.ensures.value ∙ ap (λ (s : Inside). s.work.content) c.self-inside.view_is in
    let changed : c.as_slice-changed.result.now ≡ q.work.changed = c.as_slice-changed.ensures ∙ ap (λ (s : Inside). s.work.changed) c.self-inside.view_is in
    let how : Cut = (g.D.Disk.moment c.args.disk.now).how in
    let left : List ℕ = (g.D.Disk.moment c.commit.new.disk).left in
    cut_err c.args.packs.now image c.args.self.now q c.args.vector.now c.args.stamp c.as_slice-content.result.now c.as_slice-changed.result.now c.self.view_is content changed c.in-Err.refused c.from.result c.from.ensures how passed left
    (subst (λ (s : Inside). OnErr (commit_answer {T = Unit {0}} (Err c.in-Err.refused)) (IsCut c.args.packs.now (packed s.file (record { kind = s.kind; set = s.set; stamp = c.args.stamp; vector = c.args.vector.now }) c.as_slice-content.result.now) (blocks_over (copy_at c.args.packs.now image s.file) c.as_slice-content.result.now c.as_slice-changed.result.now) how passed image left)) c.self-inside.view_is (c.in-Err.ensures.cut passed here))

pub returns-in-Err-clause-size : goal.returns-in-Err-clause-size
returns-in-Err-clause-size g c =
    let image : List ℕ = (g.D.Disk.moment c.args.disk.now).seen in
    let q : Instance = record { inst = record { us = c.self.inside.us; serial = c.self.inside.serial }; file = c.self.inside.file; mode = c.self.inside.mode; set = c.self.inside.set; kind = c.self.inside.kind; vector = c.self.inside.vector; parents = c.self.inside.parents; size = c.self.inside.size; work = c.self.inside.work; answered = c.self.inside.answered; stage = c.self.inside.stage } in
    let content : c.as_slice-content.result.now ≡ q.work.content = c.as_slice-content.ensures.value ∙ ap (λ (s : Inside). s.work.content) c.self-inside.view_is in
    let changed : c.as_slice-changed.result.now ≡ q.work.changed = c.as_slice-changed.ensures ∙ ap (λ (s : Inside). s.work.changed) c.self-inside.view_is in
    size_err c.args.packs.now image c.args.self.now q c.args.vector.now c.args.stamp c.as_slice-content.result.now c.as_slice-changed.result.now c.self.view_is content changed c.in-Err.refused c.from.result c.from.ensures
    (subst (λ (s : Inside). HasSizeIn (blocks_over (copy_at c.args.packs.now image s.file) c.as_slice-content.result.now c.as_slice-changed.result.now) (is_some (copy_at c.args.packs.now image s.file)) c.in-Err.refused) c.self-inside.view_is c.in-Err.ensures.size)
