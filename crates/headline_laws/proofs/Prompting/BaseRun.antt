-- In every run who boots, stops or joins is a site of the cluster, and members that are joined have had their boots.
use Rattle.std.proofs.Common.{◌≡◌, ℕ, ◌≤◌, arith, true, List, [], ◌∷◌, length, sym, subst, inl, inr}
use Rattle.locus_ids.specs.declared.config.Config.{Config}
use Rattle.locus_ids.specs.declared.sites.Links.{Links}
use Rattle.schedule_lines.specs.Ranges.{is_site}
use Rattle.schedule_lines.specs.declared.line.ScheduleLine.{ScheduleLine}
use Rattle.trace_book.specs.declared.record.Record.{Record}
use Rattle.trace_book.specs.declared.record.Record.TheVariants as says
use Rattle.role_steps.specs.Own.{Every}
use Rattle.role_steps.specs.Views.{Event, Shown, Told}
use Rattle.the_run.specs.Runs.{run_in}
use Rattle.the_run.specs.Steps.{step}
use Rattle.the_run.specs.Worlds.{Line, Running, World, links_of}
use Rattle.tree_model.specs.Epochs.{boot_of}
use Rattle.tree_model.specs.Folds.{Trace}
use Rattle.tree_laws.specs.Doing.{AllTold}
use Rattle.tree_laws.specs.Printed.{entries}
use Rattle.tree_laws.specs.Orders.Joining.{PacksAreOfSites}
use Rattle.row_laws.specs.Voids.{LinesFit}
use Rattle.rest_laws.proofs.Roles.{roles_do}
use Rattle.calm_laws.specs.of_store_laws.OneTree.Places.{AllAt, AllOf, IsOf}
use Rattle.calm_laws.specs.of_store_laws.OneTree.Rest.{AllRest, IsRest, more}
use Rattle.calm_laws.specs.of_store_laws.OneTree.Roles.{RolesDo}
use Rattle.calm_laws.proofs.of_store_laws.OneTree.Run.{first_holds}
use Rattle.calm_laws.proofs.of_store_laws.OneTree.Staying.{stays}
use Rattle.calm_laws.proofs.of_store_laws.OneTree.Steps.{step_fine}
use Rattle.calm_laws.proofs.of_store_laws.OneTree.Worlds.{Holds}
use Rattle.headline_laws.proofs.Prompting.Members.{EventTold, JoinRecord, JoinTold, OutTold, Told_boots}
use Rattle.headline_laws.proofs.Prompting.MembersRun.{Lists, ListsTold, Rises, WasTold, first_lists, lists_kept, none_told, out, own_needs, rises_more, sent_event, told_later}
use Rattle.headline_laws.proofs.Prompting.Run.{EachLine, IsLone, IsLoneRecord, Tells, run_tells}

-- a site of the cluster boots, stops or joins, and members of a join have had their boots
abbrev pub BaseRecord : Config → Trace → Record → Type 0
BaseRecord c b (says.Up site boot) = is_site c.sites site ≡ true
BaseRecord c b (says.Stopped site cause) = is_site c.sites site ≡ true
BaseRecord c b (says.Join site e members) = (is_site c.sites site ≡ true) × Told_boots (WasTold c b) (none_told c b) members.boot
BaseRecord c b _ = Unit {0}

abbrev pub BaseTold : Config → ℕ → List Line → Told → Type 0
BaseTold c n t (Shown r) = BaseRecord c (entries t) r
BaseTold c n t _ = Unit {0}

-- ---- what an event of a site tells ----

module _ (c : Config) (n me : ℕ) (b : Trace) (there : is_site c.sites me ≡ true) where
  one_base : (t : List Line) (x : Told) → Rises b (entries t) → JoinTold (WasTold c b) (none_told c b) x → IsOf c t me x → BaseTold c n t x
  one_base t (Shown r) up k own = over r k own
    where
      same : (s : ℕ) → s ≡ me → is_site c.sites s ≡ true
      same s e = subst (λ (u : ℕ). is_site c.sites u ≡ true) (sym e) there

      boots_own : (s boot : ℕ) → IsOf c t me (Shown (says.Up s boot)) → s ≡ me
      boots_own s boot (inl u) = absurd u
      boots_own s boot (inr (inl u)) = u
      boots_own s boot (inr (inr (inl u))) = absurd u
      boots_own s boot (inr (inr (inr (inl u)))) = absurd u.1
      boots_own s boot (inr (inr (inr (inr (inl u))))) = absurd u.of
      boots_own s boot (inr (inr (inr (inr (inr u))))) = absurd u

      over : (r : Record) → JoinRecord (WasTold c b) (none_told c b) r → IsOf c t me (Shown r) → BaseRecord c (entries t) r
      over (says.Up s boot) k own = same s (boots_own s boot own)
      over (says.Stopped s cause) k (inl u) = absurd u
      over (says.Stopped s cause) k (inr (inl u)) = same s u
      over (says.Stopped s cause) k (inr (inr (inl u))) = absurd u
      over (says.Stopped s cause) k (inr (inr (inr (inl u)))) = absurd u.1
      over (says.Stopped s cause) k (inr (inr (inr (inr (inl u))))) = absurd u.of
      over (says.Stopped s cause) k (inr (inr (inr (inr (inr u))))) = absurd u
      over (says.Join s e members) k (inl u) = absurd u
      over (says.Join s e members) k (inr (inl u)) = (same s u, λ q. told_later c b (entries t) up q _ (k q))
      over (says.Join s e members) k (inr (inr (inl u))) = absurd u
      over (says.Join s e members) k (inr (inr (inr (inl u)))) = absurd u.1
      over (says.Join s e members) k (inr (inr (inr (inr (inl u))))) = absurd u.of
      over (says.Join s e members) k (inr (inr (inr (inr (inr u))))) = absurd u
      over _ k own = tt
  one_base t _ up k own = tt

  all_base : (told : List Told) (t : List Line) → Rises b (entries t) → AllTold c n t told → Every (JoinTold (WasTold c b) (none_told c b)) told → AllOf c n t me told → AllAt (BaseTold c n) n t told
  all_base [] t up may k own = tt
  all_base (x ∷ xs) t up may k own = (one_base t x up k.0 own.0, all_base xs (more n x t) (λ s. (let a : boot_of b s ≤ boot_of (entries t) s = up s in let d : boot_of (entries t) s ≤ boot_of (entries (more n x t)) s = rises_more c n x t may.0 s in omega (arith, a, d))) may.1 k.1 own.1)

-- ---- alone ----

lone_base : (c : Config) (n : ℕ) (told : List Told) (w : World) (t : List Line) → ListsTold c w → Every (IsLone w) told → AllAt (BaseTold c n) n t told
lone_base c n [] w t l lone = tt
lone_base c n (x ∷ xs) w t l lone = (one x lone.0, lone_base c n xs w (more n x t) l lone.1)
  where
    record_base : (r : Record) → IsLoneRecord w r → BaseRecord c (entries t) r
    record_base (says.Up s boot) k = l.placed s k.0 k.1
    record_base (says.Stopped s cause) k = l.placed s k.0 k.1
    record_base (says.Join s e members) k = absurd k
    record_base _ k = tt

    one : (x : Told) → IsLone w x → BaseTold c n t x
    one (Shown r) k = record_base r k
    one _ k = tt

-- ---- every run ----

abbrev Known : Config → World → Event → Type 0
Known c w e = IsRest c w.trace → EventTold (WasTold c (entries w.trace)) (none_told c (entries w.trace)) e

tells : (c : Config) → RolesDo c → Tells c (λ w. Holds c w × Lists c w) (Known c) (BaseTold c) (λ t. Unit {0})
tells c roles = record {
  first = tt;
  own = λ w e k r. own_needs c w e k;
  came = λ w x sent g r. sent_event c w x sent (g.1 r);
  steps = λ n s links v e w a f rest here event known linked may fresh so. (
    subst (λ (ls : Links). AllTold c n w.trace (step c s ls v e).told → AllRest c n w.trace (step c s ls v e).told → AllAt (BaseTold c n) n w.trace (step c s ls v e).told) (sym linked)
        (λ may fresh. (let o : OutTold (WasTold c (entries w.trace)) (none_told c (entries w.trace)) v.boot (step c s (links_of w s) v e) = out c n s e v w f (a.1 rest) here (known rest) in
        all_base c n s (entries w.trace) ((a.1 rest).placed s (Running v) here) (step c s (links_of w s) v e).told w.trace (λ q. omega arith) may o.told (step_fine c roles (stays c) n s (links_of w s) w.trace v e (record { followed = f.followed; rest = rest }) (f.places s (Running v) here) event fresh).own)) may fresh,
    tt,
  );
  lone = λ n told w a f rest lone may so. (lone_base c n told w w.trace (a.1 rest) lone, tt);
}

pub run_base : (c : Config) (lines : List ScheduleLine) → LinesFit c lines → PacksAreOfSites c → length c.packs ≤ 4 → EachLine (BaseTold c) (run_in c lines).trace
run_base c lines fit packs few = (run_tells c (λ w. Holds c w × Lists c w) (Known c) (BaseTold c) (λ t. Unit {0}) (tells c (roles_do c few)) lines fit packs few (lists_kept c lines fit (roles_do c few)) (first_holds c (roles_do c few), first_lists c)).0
