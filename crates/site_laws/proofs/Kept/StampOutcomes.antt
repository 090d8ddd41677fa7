-- Outcomes whose views, packets and told things carry what they owe of commits, one after another.
use Rattle.std.proofs.Common.{◌≡◌, ℕ, List, [], ◌∷◌, ◌++◌, Option, Some, None, sym, subst}
use Rattle.locus_ids.specs.declared.config.Config.{Config}
use Rattle.wire_messages.specs.declared.packet.Packet.{Packet}
use Rattle.wire_messages.specs.declared.body.Body.{Body}
use Rattle.wire_messages.specs.declared.body.Body.TheVariants as body
use Rattle.trace_book.specs.declared.record.Record.{Record}
use Rattle.trace_book.specs.declared.record.Record.TheVariants as says
use Rattle.role_steps.specs.Own.{Every}
use Rattle.role_steps.specs.Views.{Told, Shown, DiskWrite, Outcome, joined_to, first_written}
use Rattle.role_steps.proofs.Sending.{every_append}
use Rattle.the_run.proofs.Boots.{every_weaker}
use Rattle.site_laws.specs.Vectors.Facts.{NoFact, Factless, NotCommit, onto}
use Rattle.site_laws.proofs.Vectors.Facts.{onto_append}
use Rattle.site_laws.specs.Kept.StampLaws.{Laws}
use Rattle.site_laws.specs.Kept.StampCovering.{NoCommits, Bare, PacketCovers, GoesRecord, Goes, AllGo, DiskGoes, Fine}
use Rattle.site_laws.proofs.Kept.StampFrames.{body_after, fold, NotAt, not_commit}

-- ---- what tells neither a commit nor a release ----

abbrev pub IdleRecord : Record → Type 0
IdleRecord (says.Commit file s stamp parents content) = ⊥
IdleRecord (says.Release e inst file made) = ⊥
IdleRecord _ = Unit {0}

abbrev pub Idle : Told → Type 0
Idle (Shown r) = IdleRecord r
Idle _ = Unit {0}

idle_record : (c : Config) (past : List Told) (me : ℕ) (r : Record) → IdleRecord r → GoesRecord c past me r
idle_record c past me (says.Commit file s stamp parents content) h = absurd h
idle_record c past me (says.Release e inst file made) h = absurd h
idle_record c past me _ h = tt

idle_told : (c : Config) (past : List Told) (me : ℕ) (x : Told) → Idle x → Goes c past me x
idle_told c past me (Shown r) h = idle_record c past me r h
idle_told c past me _ h = tt

pub idle_go : (c : Config) (past : List Told) (me : ℕ) (xs : List Told) → Every Idle xs → AllGo c past me xs
idle_go c past me [] h = tt
idle_go c past me (x ∷ xs) h = (idle_told c past me x h.0, idle_go c (x ∷ past) me xs h.1)

idle_not_commit_record : (r : Record) → IdleRecord r → NotCommit (Shown r)
idle_not_commit_record (says.Commit file s stamp parents content) h = h
idle_not_commit_record _ h = tt

pub idle_not_commit : (x : Told) → Idle x → NotCommit x
idle_not_commit (Shown r) h = idle_not_commit_record r h
idle_not_commit _ h = tt

pub idle_not_at : (s : ℕ) (x : Told) → Idle x → NotAt s x
idle_not_at s x h = not_commit s x (idle_not_commit x h)

-- ---- packets ----

pub packets_after : (c : Config) (me : ℕ) (told past : List Told) (ps : List Packet) → Laws c (onto told past) → AllGo c past me told → Every (PacketCovers past) ps → Every (PacketCovers (onto told past)) ps
packets_after c me told past ps l k h = fold c me (λ x. Unit {0}) (λ (now : List Told). Every (PacketCovers now) ps) (λ x now lx kx n g. every_weaker (PacketCovers now) (PacketCovers (x ∷ now)) ps (λ p. body_after c me x now lx kx p.from p.to p.to_boot p.epoch p.body) g) told past l k (always told) h
  where
    always : (xs : List Told) → Every (λ (x : Told). Unit {0}) xs
    always [] = tt
    always (x ∷ xs) = (tt, always xs)

pub factless_body : (b : Body) → NoFact b → NoCommits b
factless_body (body.Report group copies) h = absurd h
factless_body (body.OpenSs inst file m set kind base vector parents) h = absurd h
factless_body (body.Closed inst made) h = absurd h
factless_body (body.Notify file kind set size stamp vector holder) h = absurd h
factless_body _ h = tt

pub factless_bare : (ps : List Packet) → Every Factless ps → Every Bare ps
factless_bare ps h = every_weaker Factless Bare ps (λ p. factless_body p.body) h

-- ---- one thing, and then another ----

pub go_append : (c : Config) (me : ℕ) (past a b : List Told) → AllGo c past me a → AllGo c (onto a past) me b → AllGo c past me (a ++ b)
go_append c me past [] b h g = g
go_append c me past (x ∷ xs) b h g = (h.0, go_append c me (x ∷ past) xs b h.1 g)

disk_then : (c : Config) (past : List Told) (me : ℕ) (a b : Option DiskWrite) → DiskGoes c past me a → b ≡ None → DiskGoes c past me (first_written a b)
disk_then c past me None b h e = subst (DiskGoes c past me) (sym e) tt
disk_then c past me (Some d) b h e = h

-- the later one writes nothing
pub then_fine : {V W : Type 0} (c : Config) (me : ℕ) (F : List Told → V → Type 0) (G : List Told → W → Type 0) (past : List Told) (o : Outcome V) (p : Outcome W) → Laws c (onto p.told (onto o.told past)) → Fine c me F past o → Fine c me G (onto o.told past) p → p.written ≡ None → Fine c me G past (joined_to o p)
then_fine c me F G past o p l h g e = record {
  view = subst (λ (now : List Told). G now p.view) (sym (onto_append o.told p.told past)) g.view;
  sent = subst (λ (now : List Told). Every (PacketCovers now) (o.sent ++ p.sent)) (sym (onto_append o.told p.told past)) (every_append (PacketCovers (onto p.told (onto o.told past))) o.sent p.sent (packets_after c me p.told (onto o.told past) o.sent l g.goes h.sent) g.sent);
  goes = go_append c me past o.told p.told h.goes g.goes;
  disk = disk_then c past me o.written p.written h.disk e;
}
