use Rattle.std.proofs.Common.{◌≡◌, ℕ, ◌==◌, true, List, Some, None, refl, sym, ap, subst, ◌∙◌}
use Rattle.std.specs.List.{list_any}
use Rattle.locus_ids.specs.declared.ids.FileId.{FileId}
use Rattle.role_steps.specs.Tables.{row}
use Rattle.role_steps.specs.Views.{Store}
use Rattle.role_steps.specs.Storage.{StoreRequest, instance_key, is_open, opens, own_ino}
use Rattle.role_steps.specs.declared.instances.Instance.{Instance}
use Rattle.store_instances.specs.Stores.{Gives, StoreState, begun_with, is_make, store_of}
use Rattle.storage_site.proofs.Opens.{are_made, made_opened, none_left}
use Rattle.store_instances.proofs.Fits.{memory_fit}
use Rattle.storage_site.proofs.store.Store.open_made.Goals as goal

pub begin-requires-clause-absent : goal.begin-requires-clause-absent
begin-requires-clause-absent g c = ap (λ (i : Instance). row instance_key (instance_key i) c.args.self.now.instances) c.begun-new.ensures ∙ c.requires.absent

pub begin-requires-clause-stands : goal.begin-requires-clause-stands
begin-requires-clause-stands g c = ap (λ (i : Instance). is_open i.stage) c.begun-new.ensures

pub returns-in_ok-send_no_inode-in-None-clause-gives : goal.returns-in_ok-send_no_inode-in-None-clause-gives
returns-in_ok-send_no_inode-in-None-clause-gives g c =
    let q : StoreRequest = record { inst = c.asked.inside.inst; file = c.asked.inside.file; mode = c.asked.inside.mode; set = c.asked.inside.set; kind = c.asked.inside.kind; base = c.asked.inside.base; vector = c.asked.inside.vector; parents = c.asked.inside.parents } in
    let r : StoreState = c.args.self.now in
    let image : List ℕ = (g.D.Disk.moment c.args.disk.now).seen in
    let s : Store = store_of r c.args.packs.now image in
    let makes = λ (ino : ℕ). are_made q.file.group ino r.instances ∙ ap (λ (ms : List ℕ). list_any (λ (one : ℕ). one == ino) ms) (sym (c.as_slice.ensures ∙ c.in_ok-making.ensures)) in
    let own : None ≡ own_ino s q.file.group c.args.frame.now.me = sym c.in-None.is ∙ (c.next_ino.ensures s image c.requires.stands.shown refl makes ∙ ap (λ (site : ℕ). own_ino s q.file.group site) (c.is_own.ensures.own c.if-not-is_own.false)) in
    let make : is_make c.args.asked.mode ≡ true = c.requires.made in
    none_left c.args.frame.now c.args.asked r r c.args.packs.now image image c.args.out.now c.send_no_inode.new.out make
    (own ∙ ap (λ (r : StoreRequest). own_ino s r.file.group c.args.frame.now.me) c.asked.view_is) refl refl c.in_ok-send_no_inode-in-None.ensures.packets c.in_ok-send_no_inode-in-None.ensures.records

pub returns-in_ok-begin-in-Some-clause-gives : goal.returns-in_ok-begin-in-Some-clause-gives
returns-in_ok-begin-in-Some-clause-gives g c =
    let q : StoreRequest = record { inst = c.asked.inside.inst; file = c.asked.inside.file; mode = c.asked.inside.mode; set = c.asked.inside.set; kind = c.asked.inside.kind; base = c.asked.inside.base; vector = c.asked.inside.vector; parents = c.asked.inside.parents } in
    let r : StoreState = c.args.self.now in
    let image : List ℕ = (g.D.Disk.moment c.args.disk.now).seen in
    let s : Store = store_of r c.args.packs.now image in
    let file : FileId = record { group = q.file.group; ino = c.in-Some.ino } in
    let makes = λ (ino : ℕ). are_made q.file.group ino r.instances ∙ ap (λ (ms : List ℕ). list_any (λ (one : ℕ). one == ino) ms) (sym (c.as_slice.ensures ∙ c.in_ok-making.ensures)) in
    let own : Some c.in-Some.ino ≡ own_ino s q.file.group c.args.frame.now.me = sym c.in-Some.is ∙ (c.next_ino.ensures s image c.requires.stands.shown refl makes ∙ ap (λ (site : ℕ). own_ino s q.file.group site) (c.is_own.ensures.own c.if-not-is_own.false)) in
    subst (λ (a : StoreRequest). Gives (opens c.args.frame.now a a.mode s) (store_of c.begin.new.self c.args.packs.now image) c.args.out.now c.begin.new.out) c.asked.view_is
    (made_opened c.args.frame.now q r c.begin.new.self c.args.packs.now image image c.args.out.now c.begin.new.out c.begun-new.result c.in-Some.ino
    (ap (λ (r : StoreRequest). is_make r.mode) c.asked.view_is ∙ c.requires.made) own
    (c.begun-new.ensures ∙ (ap (λ (r : StoreRequest). begun_with r file None c.in_ok-content-in-Some.content) (sym c.asked.view_is) ∙ ap (λ (bytes : List ℕ). begun_with q file None bytes) c.in_ok-content-in-Some.ensures))
    c.in_ok-begin-in-Some.ensures.row refl c.in_ok-begin-in-Some.ensures.packets c.in_ok-begin-in-Some.ensures.records)

pub returns-then-not-is_own-clause-unfit : goal.returns-then-not-is_own-clause-unfit
returns-then-not-is_own-clause-unfit g c so own = c.is_own.ensures.other c.if-not-is_own.true own

pub returns-in_err-making-clause-unfit : goal.returns-in_err-making-clause-unfit
returns-in_err-making-clause-unfit g c so own = memory_fit c.from_residual.result c.from_residual.ensures.1 so

pub returns-in_err-send_no_inode-in-None-clause-unfit : goal.returns-in_err-send_no_inode-in-None-clause-unfit
returns-in_err-send_no_inode-in-None-clause-unfit g c so own = memory_fit c.from_residual-in_err-send_no_inode-in-None.result c.from_residual-in_err-send_no_inode-in-None.ensures.1 so

pub returns-in_err-content-in-Some-clause-unfit : goal.returns-in_err-content-in-Some-clause-unfit
returns-in_err-content-in-Some-clause-unfit g c so own = memory_fit c.from_residual-in_err-content-in-Some.result c.from_residual-in_err-content-in-Some.ensures.1 so

pub returns-in_err-begin-in-Some-clause-unfit : goal.returns-in_err-begin-in-Some-clause-unfit
returns-in_err-begin-in-Some-clause-unfit g c so own = memory_fit c.from_residual-in_err-begin-in-Some.result c.from_residual-in_err-begin-in-Some.ensures.1 so
