-- One thing after another at a table.
use Rattle.std.proofs.Common.{◌≡◌, ℕ, List, [], ◌∷◌, ◌++◌, Option, Some, None, sym, subst}
use Rattle.locus_ids.specs.declared.config.Config.{Config}
use Rattle.locus_ids.specs.declared.ids.EpochId.{EpochId}
use Rattle.role_steps.specs.Own.{Every}
use Rattle.role_steps.specs.Views.{Frame, Told, DiskWrite, Outcome, first_written, joined_to}
use Rattle.role_steps.specs.declared.synchronizing.SyncTable.{SyncTable}
use Rattle.role_steps.proofs.Sending.{every_append}
use Rattle.the_run.specs.Worlds.{Line, told_onto}
use Rattle.tree_laws.specs.Doing.{IsOfTable, IsOfSite, NoWrite, TableFine, TableOf, WrittenFact}
use Rattle.tree_laws.specs.Instances.{IsStarted}
use Rattle.tree_laws.specs.Packets.{PacketFact}
use Rattle.tree_laws.proofs.Kinship.{started_stays}
use Rattle.store_laws.specs.OneTree.Rest.{AllRest, Past, more}
use Rattle.store_laws.specs.OneTree.Roles.{Ready}
use Rattle.store_laws.proofs.OneTree.Composing.{onto_append, packets_onto, past_onto, rest_first, rest_last, told_append}
use Rattle.store_laws.proofs.OneTree.Framing.{every_at, frame_over}
use Rattle.store_laws.proofs.OneTree.Sorts.{table_site}
use Rattle.store_laws.proofs.OneTree.Staying.{stays}

unwritten : (a b : Option DiskWrite) → WrittenFact NoWrite a → WrittenFact NoWrite b → WrittenFact NoWrite (first_written a b)
unwritten None b h k = k
unwritten (Some d) b h k = absurd h

-- a group that has started stays so
pub started_onto : (c : Config) (n : ℕ) (e : EpochId) (g : ℕ) (xs : List Told) (trace : List Line) → IsStarted c trace e g → IsStarted c (told_onto n xs trace) e g
started_onto c n e g [] trace s = s
started_onto c n e g (x ∷ xs) trace s = started_onto c n e g xs (more n x trace) (started_stays c n x trace e g s)

-- the site is as ready after it
pub ready_onto : (c : Config) (n : ℕ) (trace : List Line) (f : Frame) (g : ℕ) (o : Outcome SyncTable) → Ready c trace f → AllRest c n trace o.told → TableFine c n trace f g o → Ready c (told_onto n o.told trace) f
ready_onto c n trace f g o ready fresh k = record {
  past = past_onto c n o.told trace ready.past k.told fresh;
  frame = frame_over c n f o.told trace ready.past k.told fresh (every_at n (IsOfTable f g) (λ t x. IsOfSite f.me x → ⊥) (λ x t s a. table_site f.me f g x s a) o.told trace k.own) ready.frame;
}

pub table_then : (c : Config) (n : ℕ) (trace : List Line) (f : Frame) (g : ℕ) (o p : Outcome SyncTable) → Ready c trace f → AllRest c n trace (o.told ++ p.told) → TableFine c n trace f g o → TableFine c n (told_onto n o.told trace) f g p → TableFine c n trace f g (joined_to o p)
table_then c n trace f g o p ready fresh a b =
    let mid : List Line = told_onto n o.told trace in
    let same : told_onto n (o.told ++ p.told) trace ≡ told_onto n p.told mid = onto_append n o.told p.told trace in
    let followed : Past c mid = past_onto c n o.told trace ready.past a.told (rest_first c n o.told p.told trace fresh) in
    record {
      told = told_append c n o.told p.told trace a.told b.told;
      own = every_append (IsOfTable f g) o.told p.told a.own b.own;
      view = subst (λ (t : List Line). TableOf c f g t p.view) (sym same) b.view;
      sent = subst (λ (t : List Line). Every (PacketFact c t) (joined_to o p).sent) (sym same) (every_append (PacketFact c (told_onto n p.told mid)) o.sent p.sent
          (packets_onto c n p.told mid (stays c) followed b.told (rest_last c n o.told p.told trace fresh) o.sent a.sent) b.sent);
      written = unwritten o.written p.written a.written b.written;
    }
