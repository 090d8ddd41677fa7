-- A report is answered, and the first of a member counts; with the last one the group starts.
use Rattle.std.proofs.Common.{◌≡◌, ℕ, Bool, true, false, List, [], ◌∷◌, Some, refl, sym, ◌∙◌, subst}
use Rattle.role_steps.proofs.of_plain_facts.Tests.{true_false}
use Rattle.locus_ids.specs.Sites.{has}
use Rattle.locus_ids.specs.declared.config.Config.{Config}
use Rattle.wire_messages.specs.declared.body.Body.TheVariants as body
use Rattle.wire_messages.specs.declared.body.ReportedCopy.{ReportedCopy}
use Rattle.role_steps.specs.Own.{Every}
use Rattle.role_steps.specs.Reports.{counts_report, have_all_reported, on_report, starts, starts_if, with_all_reported, with_report, with_reported}
use Rattle.role_steps.specs.Views.{Frame, Outcome, packet, quiet, sends, sync_site}
use Rattle.role_steps.specs.declared.synchronizing.Early.{Early}
use Rattle.role_steps.specs.declared.synchronizing.SyncTable.{SyncTable}
use Rattle.the_run.specs.Worlds.{Line}
use Rattle.tree_laws.specs.Doing.{TableFine}
use Rattle.tree_laws.specs.Tables.{WaitsIn}
use Rattle.store_laws.specs.OneTree.Rest.{AllRest}
use Rattle.store_laws.specs.OneTree.Roles.{Ready, TableHere}
use Rattle.rest_laws.specs.EpochTreeReporting.{MayCount}
use Rattle.rest_laws.specs.EpochTreeWaiting.{RequestsDo}
use Rattle.rest_laws.proofs.EpochTreeStarting.{starts_fine}
use Rattle.rest_laws.proofs.EpochTreeThen.{table_then}
use Rattle.rest_laws.proofs.EpochTreeWaiting.{quiet_fine}

-- a report changes nothing but files and who has reported
pub record IsLike (u t : SyncTable) : Type 0 where
  pub group : u.group ≡ t.group
  pub started : u.started ≡ t.started
  pub early : u.early ≡ t.early

all_like : (from : ℕ) (xs : List ReportedCopy) (t : SyncTable) → IsLike (with_all_reported from xs t) t
all_like from [] t = record { group = refl; started = refl; early = refl }
all_like from (x ∷ xs) t = (let k : IsLike (with_all_reported from xs (with_reported from x t)) (with_reported from x t) = all_like from xs (with_reported from x t) in record { group = k.group; started = k.started; early = k.early })

pub report_like : (from : ℕ) (xs : List ReportedCopy) (t : SyncTable) → IsLike (with_report from xs t) t
report_like from xs t = (let k = all_like from xs _ in record { group = k.group; started = k.started; early = k.early })

module _ (c : Config) (does : RequestsDo c) (n : ℕ) (trace : List Line) (f : Frame) (from : ℕ) (xs : List ReportedCopy) (t : SyncTable) (ready : Ready c trace f) (here : TableHere c trace f t) (all : t.started ≡ true → has t.reported from ≡ true) (may : MayCount c trace f from xs t) where
  like : IsLike (with_report from xs t) t
  like = report_like from xs t

  -- the first report of a member
  first : t.started ≡ false → has t.reported from ≡ false → AllRest c n trace (starts_if f (with_report from xs t)).told → TableFine c n trace f t.group (starts_if f (with_report from xs t))
  first waits new fresh = subst (λ (g : ℕ). TableFine c n trace f g (starts_if f (with_report from xs t))) like.group (over (have_all_reported f (with_report from xs t)) refl fresh)
    where
      counted : TableHere c trace f (with_report from xs t)
      counted = record { synced = subst (λ (g : ℕ). sync_site f.config f.members g ≡ Some f.me) (sym like.group) here.synced; fact = may.counts waits new }

      groups : Every (WaitsIn (with_report from xs t).group) (with_report from xs t).early
      groups = subst (λ (g : ℕ). Every (WaitsIn g) (with_report from xs t).early) (sym like.group) (subst (λ (es : List Early). Every (WaitsIn t.group) es) (sym like.early) here.fact.early_here)

      over : (b : Bool) → have_all_reported f (with_report from xs t) ≡ b → AllRest c n trace (elim b as (λ (z : Bool). Outcome SyncTable) [ true ↦ starts f (with_report from xs t) | false ↦ quiet (with_report from xs t) ]).told →
          TableFine c n trace f (with_report from xs t).group (elim b as (λ (z : Bool). Outcome SyncTable) [ true ↦ starts f (with_report from xs t) | false ↦ quiet (with_report from xs t) ])
      over true all fresh = starts_fine c n trace f (with_report from xs t) does ready counted (like.started ∙ waits) all (may.brought waits all) groups fresh
      over false all fresh = quiet_fine c n trace f (with_report from xs t) counted

  waiting : has t.reported from ≡ false → t.started ≡ false
  waiting new = over t.started refl
    where
      over : (b : Bool) → t.started ≡ b → t.started ≡ false
      over true s = absurd (true_false (sym (all s) ∙ new))
      over false s = s

  counts_fine : AllRest c n trace (counts_report f from xs t).told → TableFine c n trace f t.group (counts_report f from xs t)
  counts_fine fresh = over (has t.reported from) refl fresh
    where
      over : (b : Bool) → has t.reported from ≡ b → AllRest c n trace (elim b as (λ (z : Bool). Outcome SyncTable) [ true ↦ quiet t | false ↦ starts_if f (with_report from xs t) ]).told →
          TableFine c n trace f t.group (elim b as (λ (z : Bool). Outcome SyncTable) [ true ↦ quiet t | false ↦ starts_if f (with_report from xs t) ])
      over true old fresh = quiet_fine c n trace f t here
      over false new fresh = first (waiting new) new fresh

  pub report_fine : AllRest c n trace (on_report f from xs t).told → TableFine c n trace f t.group (on_report f from xs t)
  report_fine fresh = table_then c n trace f t.group (sends (packet f from (body.ReportOk t.group) ∷ []) t) (counts_report f from xs t) ready fresh
      (record { told = tt; own = tt; view = record { group_is = refl; table = here.fact }; sent = (tt, tt); written = tt }) (counts_fine fresh)
