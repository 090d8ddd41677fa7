-- In every run a reply that is due comes next, and none is due at the end.
use Rattle.std.proofs.Common.{◌≤◌, ℕ, List, [], ◌∷◌, length, subst, sym, arith}
use Rattle.locus_ids.specs.declared.config.Config.{Config}
use Rattle.schedule_lines.specs.Cluster.{config_of}
use Rattle.schedule_lines.specs.Schedule.{AreInOrder}
use Rattle.schedule_lines.specs.declared.line.ScheduleLine.{ScheduleLine}
use Rattle.trace_book.specs.declared.record.Record.{Record}
use Rattle.trace_book.specs.declared.record.Record.TheVariants as says
use Rattle.role_steps.specs.Own.{Every}
use Rattle.role_steps.specs.Views.{Shown, Told}
use Rattle.the_run.specs.Runs.{run}
use Rattle.the_run.specs.Worlds.{Line, World}
use Rattle.tree_laws.specs.Doing.{AllTold}
use Rattle.tree_laws.specs.Following.{IsFollowed}
use Rattle.tree_laws.specs.Printed.{entries}
use Rattle.calm_laws.specs.of_store_laws.OneTree.Rest.{more}
use Rattle.calm_laws.specs.of_store_laws.OneTree.Roles.{RolesDo}
use Rattle.row_laws.specs.Shown.{EachRecord, trace_of}
use Rattle.row_laws.proofs.Fitting.{schedule_fits}
use Rattle.rest_laws.proofs.Packs.{schedule_packs}
use Rattle.rest_laws.proofs.Roles.{roles_do}
use Rattle.rest_laws.proofs.Shown.{shown_entries}
use Rattle.rest_laws.proofs.StoreStepFirst.{four_groups}
use Rattle.headline_laws.specs.Prompting.Due.{IsDueRow, RepliesComeNext}
use Rattle.headline_laws.proofs.Prompting.Owing.{DueTold, Dues, settled_due}
use Rattle.headline_laws.proofs.Prompting.OwingEvents.{step_dues}
use Rattle.headline_laws.proofs.Prompting.Resting.{Settled, Settles, settled_more, settled_undue}
use Rattle.headline_laws.proofs.Prompting.Run.{nothing_kept, EachLine, IsLone, Tells, run_tells}

lone_settles : (c : Config) (w : World) (n : ℕ) (t : List Line) (x : Told) → IsLone w x → Settles c n t x
lone_settles c w n t (Shown r) k = over r k
  where
    over : (r : Record) → IsLone w (Shown r) → Settles c n t (Shown r)
    over (says.Leave site e) k = k
    over (says.Accept site process d words) k = absurd k
    over _ k = tt
lone_settles c w n t _ k = tt

lone_dues : (c : Config) (w : World) (n : ℕ) (told : List Told) (t : List Line) → IsFollowed c t → Every (IsLone w) told → AllTold c n t told → Settled c (entries t) → Dues c n t told
lone_dues c w n [] t h lone may k = (tt, k)
lone_dues c w n (x ∷ xs) t h lone may k =
    let later : Dues c n (more n x t) xs = lone_dues c w n xs (more n x t) (may.0, h) lone.1 may.1 (settled_more c n x t h may.0 (lone_settles c w n t x lone.0) k) in
    ((settled_due c n t x k, later.0), later.1)

tells : (c : Config) → length c.packs ≤ 4 → RolesDo c → Tells c (λ w. Unit {0}) (λ w e. Unit {0}) (DueTold c) (λ t. Settled c (entries t))
tells c few roles = record {
  first = tt;
  own = λ w e k. tt;
  came = λ w x sent k. tt;
  steps = λ n s links v e w a f rest here event known linked may fresh settled. step_dues c few roles n s w.trace (record { followed = f.followed; rest = rest }) settled links v e (f.places s _ here) event may fresh;
  lone = λ n told w a f rest lone may settled. lone_dues c w n told w.trace f.followed lone may settled;
}

due_told : (c : Config) (n : ℕ) (t : List Line) (x : Told) → DueTold c n t x → EachRecord (IsDueRow c) (entries t) → EachRecord (IsDueRow c) (entries (more n x t))
due_told c n t (Shown r) fact k = (fact, k)
due_told c n t _ fact k = k

each_due : (c : Config) (t : List Line) → EachLine (DueTold c) t → EachRecord (IsDueRow c) (entries t)
each_due c [] k = tt
each_due c (x ∷ older) k = due_told c x.number older x.told k.0 (each_due c older k.1)

pub replies_next : (lines : List ScheduleLine) → AreInOrder lines → RepliesComeNext (config_of lines) (trace_of (run lines))
replies_next lines order =
    let c : Config = config_of lines in
    let few : length c.packs ≤ 4 = omega (arith, four_groups lines) in
    let k : EachLine (DueTold c) (run lines).trace × Settled c (entries (run lines).trace) = run_tells c (λ w. Unit {0}) (λ w e. Unit {0}) (DueTold c) (λ t. Settled c (entries t)) (tells c few (roles_do c few)) lines (schedule_fits lines order) (schedule_packs lines order) few (nothing_kept c lines) tt in
    subst (RepliesComeNext c) (sym (shown_entries (run lines).trace)) (record { each = each_due c (run lines).trace k.0; ended = settled_undue c (entries (run lines).trace) k.1 })
