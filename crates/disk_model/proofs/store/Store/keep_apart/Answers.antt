use Rattle.std.proofs.Common.{◌≡◌, ap, sym, ◌∙◌, refl, List, ℕ, Bool, length}
use Rattle.disk_model.specs.Store.{put_back, durable_of}
use Rattle.disk_model.proofs.PutBack.{whole_over}
use Rattle.disk_model.proofs.store.Store.keep_apart.Goals as goal

pub returns-clause-durable : goal.returns-clause-durable
returns-clause-durable c =
    let s = c.args.self.now in
    c.put_back.ensures.value
    ∙ (λ i. put_back (c.deref.ensures.value i) (c.deref-2.ensures.value i) c.copy.new.self)
    ∙ ap (λ (l : List ℕ). put_back s.unsynced.items s.before.items l) (c.copy.ensures ∙ whole_over s.durable s.seen _ (sym s.long) c.len.ensures)
    ∙ sym (ap (λ (b : Bool). durable_of b s.durable s.unsynced.items s.before.items s.seen) c.requires)
