-- A member that could adopt the only kept version of a file when a calm round begins, in which nobody has it open: it adopts it in that
-- round, or lacks room for it at some moment.
use Rattle.std.proofs.Common.{Bool, List, None, Option, Some, [], ap, arith, false, inl, inr, length, map, nat_le, nat_lt, refl, subst, suc, sym, true, zero, ℕ, ◌++◌, ◌==◌, ◌∙◌, ◌∷◌, ◌≡◌, ◌≤◌, ◌⊎◌}
use Rattle.std.proofs.lemmas.List.{length-map}
use Rattle.calm_laws.proofs.Calm.{calm_in_round}
use Rattle.calm_laws.proofs.Delivered.{inside_fact}
use Rattle.calm_laws.proofs.Facts.{RoundFacts}
use Rattle.calm_laws.proofs.Lists.{row_key}
use Rattle.calm_laws.proofs.Moments.{GoesOn, goes_itself, goes_round_kept}
use Rattle.calm_laws.proofs.Rounds.{one_more}
use Rattle.calm_laws.proofs.Ticks.{sites_apart}
use Rattle.calm_laws.specs.Carrying.{IsMember}
use Rattle.calm_laws.specs.Rounds.{Delivery, IsCalm, IsInRound, after}
use Rattle.calm_laws.proofs.Convergence.Between.{CouldAdopt, IsReady, names_low, ready_on}
use Rattle.calm_laws.proofs.Convergence.Coming.{Comes, comes_step, inside_view, names_then, taken_for}
use Rattle.calm_laws.proofs.Convergence.Counting.{CanAdopt, IsDelivered, delivered_enough, quiet_enough}
use Rattle.calm_laws.proofs.Convergence.Due.{HasOrNamed, OnlyOf, only_of, ticks_name}
use Rattle.calm_laws.proofs.Convergence.Happening.{Before, Happened, Remains, before_in, remains_in, taken_happens}
use Rattle.calm_laws.proofs.Convergence.Late.{start_facts, start_goes}
use Rattle.calm_laws.proofs.Convergence.Midst.{Midst, holds_it, low_stays, midst_in, narrow_in, none_runs, past_of_round, pull_in, pull_written}
use Rattle.calm_laws.proofs.Convergence.Passing.{IsPassed, taken_or_passed}
use Rattle.calm_laws.proofs.Convergence.Reached.{nothing_named}
use Rattle.calm_laws.proofs.Convergence.Resting.{IsKeptOnly, RestsBy, last_offer, under_it}
use Rattle.calm_laws.proofs.Convergence.Starting.{HasTicked, ticks_leave, within_after}
use Rattle.calm_laws.proofs.Convergence.Vectors.{above_through}
use Rattle.calm_laws.specs.Convergence.Copies.{HoldsTheOnly}
use Rattle.calm_laws.specs.Convergence.Offers.{HasEnough, HasWhole, MayAdopt, Offer, is_above, is_for, named, names, names_to, offer_of}
use Rattle.calm_laws.specs.Convergence.Rounds.{LackedRoom}
use Rattle.run_laws.proofs.Epochs.Run.{run_good}
use Rattle.run_laws.specs.Epochs.Forming.{FormsNone}
use Rattle.file_content.specs.Pages.{pages_of}
use Rattle.lawful_trace.specs.Places.{lines_before}
use Rattle.locus_ids.specs.Sites.{has}
use Rattle.locus_ids.specs.declared.config.Config.{Config}
use Rattle.locus_ids.specs.declared.ids.FileId.{FileId}
use Rattle.locus_ids.specs.declared.sites.Links.{Links}
use Rattle.locus_ids.specs.declared.sites.Sites.{Sites}
use Rattle.row_laws.proofs.Orderly.Places.{view_eq}
use Rattle.row_laws.proofs.Orderly.Rounds.{arrives_kept, next_among}
use Rattle.row_laws.specs.Orderly.Calm.{AreTogether, IsInside, delivers_next}
use Rattle.calm_laws.proofs.Pulls.Ascending.{ascend_kept, first_ascend}
use Rattle.store_laws.proofs.OneTree.Rising.{among_map}
use Rattle.store_laws.proofs.OneTree.Run.{sent_fact}
use Rattle.store_laws.proofs.OneTree.Staying.{stays}
use Rattle.store_laws.proofs.OneTree.ToldVectorOnly.{row_stands}
use Rattle.tree_laws.proofs.Syncs.Versions.{row_vector}
use Rattle.calm_laws.specs.Pulls.Pulls.{PullsAscend}
use Rattle.role_steps.proofs.of_plain_facts.Numbers.{equal}
use Rattle.role_steps.proofs.of_plain_facts.Tests.{both_true, true_false}
use Rattle.role_steps.specs.Pulling.{pull_key, wanted_pages}
use Rattle.role_steps.specs.Storage.{copy_of, free_pages}
use Rattle.role_steps.specs.Tables.{without_row}
use Rattle.role_steps.specs.Versions.{is_below}
use Rattle.role_steps.specs.Views.{Calls, Receives, SiteView, Ticks, all_sites, boot_in, file_key}
use Rattle.role_steps.specs.declared.pulls.Pull.{Pull}
use Rattle.role_steps.specs.declared.rounds.InEpoch.{InEpoch}
use Rattle.role_steps.specs.declared.synchronizing.VersionRow.{VersionRow}
use Rattle.schedule_lines.specs.declared.line.ScheduleLine.{ScheduleLine}
use Rattle.the_run.proofs.Boots.{at_each}
use Rattle.the_run.proofs.Runs.{every_run}
use Rattle.the_run.specs.Kept.{Among}
use Rattle.the_run.specs.Runs.{arrives, next_packet, run_in, ticks_to}
use Rattle.the_run.specs.Steps.{is_dropped, step}
use Rattle.the_run.specs.Worlds.{Numbered, Running, World, links_of, number_of, passed, place_at}
use Rattle.trace_book.specs.declared.call.Call.{Call}
use Rattle.tree_laws.specs.Packets.{PacketFact}
use Rattle.tree_laws.specs.Printed.{entries}
use Rattle.tree_laws.specs.Stores.{PullFact}
use Rattle.tree_model.specs.Files.{HeldVersion, set_of_file}
use Rattle.wire_messages.specs.Bodies.{kind_number}
use Rattle.wire_messages.specs.declared.body.Body.{Body}
use Rattle.wire_messages.specs.declared.body.Body.TheVariants as body
use Rattle.wire_messages.specs.declared.packet.Packet.{Packet}

-- ---- what stands before the ticks ----

pub midst_start : (c : Config) (lines : List ScheduleLine) (m : ℕ) (e : InEpoch) (l : ℕ) → IsCalm c lines m e l → Midst c e (run_in c (lines_before lines m))
midst_start c lines m e l calm = record {
  past = past_of_round c w facts;
  good = run_good c (lines_before lines m);
  groups = calm.groups;
  stays = λ s v q here. inside_view e w s v (calm.first.inside s q) here;
  site = λ s v q here. inside_fact c e w s v facts.fact calm.first q here;
  packets = λ x sent. sent_fact c w x facts.fact sent;
  ascend = every_run c PullsAscend (ascend_kept c) (first_ascend c) (lines_before lines m);
}
  where
    w : World
    w = run_in c (lines_before lines m)

    facts : RoundFacts c w
    facts = start_facts c lines m e l calm

unforming : (b : Body) → FormsNone b → nat_lt (kind_number b) 6 ≡ false
unforming body.Poll k = absurd k
unforming (body.Promise reach) k = absurd k
unforming (body.Refuse promised) k = absurd k
unforming (body.Install members) k = absurd k
unforming body.Joined k = absurd k
unforming _ k = refl

-- ---- a round ----

module _ (c : Config) (lines : List ScheduleLine) (m : ℕ) (e : InEpoch) (l : ℕ) (calm : IsCalm c lines m e l) (file : FileId) (v : VersionRow) (s : ℕ) (member : IsMember e s) (few : (j : ℕ) → j ≤ l → (z : SiteView) (p : Pull) → place_at (after c lines m j) s ≡ Some (Running z) → Among p z.pulls → offer_of p ≡ last_offer file v → length (wanted_pages p) ≤ pages_of v.size)
    (rests_start : RestsBy c e file v s (run_in c (lines_before lines m)).trace) (rests : (j : ℕ) → j ≤ l → RestsBy c e file v s (after c lines m j).trace) where
  abbrev start : World
  start = run_in c (lines_before lines m)

  abbrev at : ℕ → World
  at j = after c lines m j

  k0 : Midst c e start
  k0 = midst_start c lines m e l calm

  round : (j : ℕ) → j ≤ l → IsInRound c lines m (at j)
  round j le = calm_in_round c lines m e l j calm le

  midst : (j : ℕ) → j ≤ l → Midst c e (at j)
  midst j le = midst_in c lines m e (at j) (round j le) (calm.each j le)

  -- ---- its ticks ----

  ticks_event_no_call : (process : ℕ) (words : Call) → Ticks ≡ Calls process words → ⊥
  ticks_event_no_call process words q = cc

  ticks_event_no_packet : (q : Packet) → Ticks ≡ Receives q → ⊥
  ticks_event_no_packet q z = cc

  pub ticked_ready : (i : IsInside start e s) (z : SiteView) → place_at (at 0) s ≡ Some (Running z) → IsReady i.view file v → IsReady z file v
  ticked_ready i z there = (let t : HasTicked c s i.view z = ticks_leave c m all_sites start s i.view z sites_apart (calm.sites s member) i.here there (within_after c lines m e l calm 0 (omega arith)) in
      let g : GoesOn start (at 0) = start_goes c m 0 start in
      ready_on c e file v s member start (at 0) k0 (midst 0 (omega arith)) rests_start (rests 0 (omega arith)) g.lines g.trace Ticks t.links i.view z i.here there t.left
      (λ process words q. absurd (ticks_event_no_call process words q)) (λ q y. absurd (ticks_event_no_packet q y)))

  -- ---- what could be adopted then ----

  -- whatever is pulled above a copy is named by a notice after the ticks
  all_named : (z : SiteView) → place_at (at 0) s ≡ Some (Running z) → (p : Pull) → Among p z.pulls → is_above p.vector (copy_of z.store p.file) ≡ true → (o : Offer) × (Among o (named e s (at 0).underway) × (file_key o.file ≡ pull_key p))
  all_named z here p a above = by_named (ticks_name c lines m e l calm s o member one.due)
    where
      w : World
      w = at 0

      k : Midst c e w
      k = midst 0 (omega arith)

      f : PullFact c w.trace e.id s p
      f = pull_in c e w k s z member here p a

      set_is : has (set_of_file c (entries w.trace) p.file) s ≡ true
      set_is = ap (λ (x : Sites). has x s) (sym (ap (λ (x : HeldVersion). x.set) f.is_version.same) ∙ f.set_is) ∙ f.wanted

      one : OnlyOf c e w s p.file
      one = only_of c e w k (λ t q. (calm.each 0 (omega arith)).inside t q) s member p.file f.started f.single set_is

      o : Offer
      o = record { file = p.file; stamp = one.version.stamp; vector = one.version.vector }

      kept : IsKeptOnly c w.trace e o
      kept = record { only = one.only; vector = row_vector c w.trace p.file one.version one.fact; stands = row_stands c w.trace p.file one.version one.fact }

      above_it : ((p.stamp ≡ o.stamp) × (p.vector ≡ o.vector)) ⊎ (is_below p.vector o.vector ≡ true) → is_above o.vector (copy_of z.store p.file) ≡ true
      above_it (inl q) = ap (λ (x : List ℕ). is_above x (copy_of z.store p.file)) (sym q.1) ∙ above
      above_it (inr q) = above_through p.vector o.vector (copy_of z.store p.file) above q

      by_named : HasOrNamed e w s o → (o : Offer) × (Among o (named e s w.underway) × (file_key o.file ≡ pull_key p))
      by_named (inr b) = (o, (b, refl))
      by_named (inl it) = absurd (true_false (sym (above_it (under_it c w.trace k.past e o kept p.stamp p.vector f.known (pull_written c w.trace e.id s p f)))
          ∙ (ap (λ (y : SiteView). is_above o.vector (copy_of y.store p.file)) (view_eq (place_at w s) z it.view here it.here) ∙ it.low)))

  pub enough_first : (z : SiteView) → place_at (at 0) s ≡ Some (Running z) → HasEnough e (at 0).underway s z
  enough_first z here = record { keys = map key_of offers; each = each; notices = (let q : length (map key_of offers) ≡ length offers = length-map offers key_of in omega (arith, q)) }
    where
      offers : List Offer
      offers = named e s (at 0).underway

      key_of : Offer → ℕ
      key_of o = file_key o.file

      there : (o : Offer) (i : ℕ) → Among o offers → key_of o ≡ i → Among i (map key_of offers)
      there o i a eq = subst (λ (j : ℕ). Among j (map key_of offers)) eq (among_map key_of o offers a)

      each : (i : ℕ) → MayAdopt e (at 0).underway s z i → Among i (map key_of offers)
      each i (inl h) = (let r : (o : Offer) × (Among o offers × (file_key o.file ≡ pull_key h.pull)) = all_named z here h.pull h.there h.above in there r.0 i r.1.0 (r.1.1 ∙ h.key))
      each i (inr h) = there h.offer i h.named h.key

  -- ---- its deliveries ----

  -- the member has the version, or lacked room for it at some moment, or could adopt it still while enough notices are under way
  abbrev StaysSo : ℕ → Type 0
  StaysSo j = (z : SiteView) → place_at (at j) s ≡ Some (Running z) → (is_above v.vector (copy_of z.store file) ≡ false) ⊎ (LackedRoom c lines m l s file v ⊎ (CouldAdopt z file v × HasEnough e (at j).underway s z))

  one_delivery : (j : ℕ) → suc j ≤ l → StaysSo j → StaysSo (suc j)
  one_delivery j le old z there = by_next (next_packet w) refl (one_more c m j (ticks_to c m all_sites start))
    where
      w : World
      w = at j

      low : j ≤ l
      low = omega (arith, le)

      k : Midst c e w
      k = midst j low

      k1 : Midst c e (at (suc j))
      k1 = midst (suc j) le

      i : IsInside w e s
      i = (calm.each j low).inside s member

      Then : SiteView → Type 0
      Then y = (is_above v.vector (copy_of y.store file) ≡ false) ⊎ (LackedRoom c lines m l s file v ⊎ (CouldAdopt y file v × HasEnough e (at (suc j)).underway s y))

      goes_to : (x : Numbered) → next_packet w ≡ Some x → at (suc j) ≡ arrives c m x w → GoesOn w (at (suc j))
      goes_to x is now = subst (GoesOn w) (sym now) (arrives_kept c m (GoesOn w) (goes_round_kept c m w) x w (next_among w w.over x is) (goes_itself w))

      by_next : (o : Option Numbered) → next_packet w ≡ o → at (suc j) ≡ delivers_next c m w (next_packet w) → Then z
      by_next None is eq = over (old z (ap (λ (y : World). place_at y s) (sym same) ∙ there))
        where
          same : at (suc j) ≡ w
          same = eq ∙ ap (delivers_next c m w) is

          over : (is_above v.vector (copy_of z.store file) ≡ false) ⊎ (LackedRoom c lines m l s file v ⊎ (CouldAdopt z file v × HasEnough e w.underway s z)) → Then z
          over (inl q) = inl q
          over (inr (inl q)) = inr (inl q)
          over (inr (inr q)) = inr (inr (q.0, subst (λ (y : World). HasEnough e y.underway s z) (sym same) q.1))
      by_next (Some x) is eq = over (old i.view i.here)
        where
          now : at (suc j) ≡ arrives c m x w
          now = eq ∙ ap (delivers_next c m w) is

          goes : GoesOn w (at (suc j))
          goes = goes_to x is now

          low_then : is_above v.vector (copy_of i.view.store file) ≡ false → Then z
          low_then q = inl (low_stays c e w (at (suc j)) goes.lines k k1 goes.trace s member i.view z i.here there file (narrow_in c e w k file v s (rests j low) member) v.vector q)

          came_or : Delivery c lines m e x w ⊎ IsPassed c m e x w
          came_or = taken_or_passed c lines m e x w (round j low) is (subst (λ (y : World). IsInRound c lines m y) now (round (suc j) le)) (calm.each j low) (subst (λ (y : World). AreTogether y e) now (calm.each (suc j) le)) (ap (λ (y : World). y.over) (sym now) ∙ within_after c lines m e l calm (suc j) le)

          -- enough stays, where the member's view stays
          beside : (more : List Numbered) → (at (suc j)).underway ≡ without_row number_of x.number w.underway ++ more → place_at (at (suc j)) s ≡ place_at w s → length (names e s x.packet) ≤ 0 → CouldAdopt i.view file v × HasEnough e w.underway s i.view → Then z
          beside more under same none q = (let same_view : i.view ≡ z = view_eq (place_at (at (suc j)) s) i.view z (same ∙ i.here) there in
              subst Then same_view (inr (inr (
                q.0,
                quiet_enough c e s x w (at (suc j)) i.view i.view member
                    (record { before = k; after = k1; lines = goes.lines; goes = goes.trace; here = i.here; there = same ∙ i.here; more = more; coming = next_among w w.over x is; names = names_then c lines m e s x w (at (suc j)).underway more (round j low) (next_among w w.over x is) under })
                    (λ y a. a) none q.1,
              ))))

          unnamed : (b : Bool) → is_for e s x.packet ≡ b → (is_for e s x.packet ≡ true → ⊥) → length (names e s x.packet) ≤ 0
          unnamed true q none = absurd (none q)
          unnamed false q none = subst (λ (t : Bool). length (names_to t x.packet.body) ≤ 0) (sym q) (omega arith)

          elsewhere : is_for e s x.packet ≡ true → x.packet.to ≡ s
          elsewhere h = equal x.packet.to s (both_true (x.packet.to == s) _ h).0

          by_room : CouldAdopt i.view file v × HasEnough e w.underway s i.view → (b : Bool) → nat_le (pages_of v.size) (free_pages i.view.store file.group) ≡ b → Then z
          by_room q false room = inr (inl (w, inr (j, low, refl), record { view = i.view; here = i.here; small = room }))
          by_room q true room = by_came came_or
            where
              mine : (g : Delivery c lines m e x w) → x.packet.to ≡ s → Then z
              mine g to_s = by_ready (ready_on c e file v s member w (at (suc j)) k k1 (rests j low) (rests (suc j) le) goes.lines goes.trace (Receives x.packet) links i.view z i.here there is_step
                  (λ process words y. absurd (receives_no_call process words y)) (λ y same. subst (λ (p : Packet). PacketFact c w.trace p) (packet_same y same) (k.packets x (inr (next_among w w.over x is)))) (inr q.0))
                where
                  links : Links
                  links = links_of (passed x.number w) s

                  receives_no_call : (process : ℕ) (words : Call) → Receives x.packet ≡ Calls process words → ⊥
                  receives_no_call process words y = cc

                  packet_same : (y : Packet) → Receives x.packet ≡ Receives y → x.packet ≡ y
                  packet_same y same = cc

                  view_is : g.view ≡ i.view
                  view_is = view_eq (place_at w s) g.view i.view (subst (λ (t : ℕ). place_at w t ≡ Some (Running g.view)) to_s g.here) i.here

                  comes : Comes c m x w (step c x.packet.to (links_of (passed x.number w) x.packet.to) g.view (Receives x.packet)).view
                  comes = comes_step c lines m e x w g

                  is_step : z ≡ (step c s links i.view (Receives x.packet)).view
                  is_step = view_eq (place_at (at (suc j)) s) z (step c s links i.view (Receives x.packet)).view there
                      (ap (λ (y : World). place_at y s) now ∙ (ap (place_at (arrives c m x w)) (sym to_s) ∙ (comes.here ∙ ap (λ (y : SiteView). Some (Running y)) (ap (λ (t : ℕ). (step c t (links_of (passed x.number w) t) g.view (Receives x.packet)).view) to_s ∙ ap (λ (y : SiteView). (step c s links y (Receives x.packet)).view) view_is))))

                  b : Before c e s i.view
                  b = before_in c e w k s i.view member i.here

                  taken : is_dropped x.packet i.view ≡ false
                  taken = ap (is_dropped x.packet) (sym view_is) ∙ g.taken

                  h : Happened c e s i.view z (Receives x.packet)
                  h = subst (λ (y : SiteView). Happened c e s i.view y (Receives x.packet)) (sym is_step) (taken_happens c e s links i.view b x.packet (subst (λ (y : SiteView). Remains e y) is_step (remains_in c e (at (suc j)) k1 s z member there)) taken)

                  dd : IsDelivered c e s x w (at (suc j)) i.view z
                  dd = record {
                    before = k;
                    after = k1;
                    lines = goes.lines;
                    goes = goes.trace;
                    here = i.here;
                    there = there;
                    more = comes.more;
                    coming = next_among w w.over x is;
                    names = names_then c lines m e s x w (at (suc j)).underway comes.more (round j low) (next_among w w.over x is) (ap (λ (y : World). y.underway) now ∙ comes.underway);
                  }

                  for : FormsNone x.packet.body → is_for e s x.packet ≡ true
                  for forms = subst (λ (t : ℕ). is_for e t x.packet ≡ true) to_s (taken_for e x.packet i.view b.epoch (b.boot ∙ ap (boot_in e.members.boot) (sym to_s)) (unforming x.packet.body forms) taken)

                  can : (above : is_above v.vector (copy_of i.view.store file) ≡ true) → CanAdopt c e s x w (at (suc j)) i.view z member dd file v
                  can above = record { could = q.0; few = few j low i.view q.0.pulls.pull i.here (row_key pull_key (file_key file) i.view.pulls q.0.pulls.pull q.0.pulls.found).0 q.0.pulls.offer; room = room; above = above }

                  by_above : CouldAdopt z file v → (t : Bool) → is_above v.vector (copy_of i.view.store file) ≡ t → Then z
                  by_above could false y = low_then y
                  by_above could true y = inr (inr (
                    could,
                    delivered_enough c e s x w (at (suc j)) i.view z member dd file v (can y) h b for (none_runs c e w k file v s (rests j low) member i.view i.here)
                        (λ inside. names_low c e file v s member w (at (suc j)) k k1 (rests j low) (rests (suc j) le) goes.lines goes.trace x.packet (k.packets x (inr (next_among w w.over x is))) inside) q.1,
                  ))

                  by_ready : IsReady z file v → Then z
                  by_ready (inl y) = inl y
                  by_ready (inr could) = by_above could (is_above v.vector (copy_of i.view.store file)) refl

              by_came : Delivery c lines m e x w ⊎ IsPassed c m e x w → Then z
              by_came (inl g) = at_each x.packet.to s (Then z) (mine g) (λ ne. (let comes : Comes c m x w (step c x.packet.to (links_of (passed x.number w) x.packet.to) g.view (Receives x.packet)).view = comes_step c lines m e x w g in
                  beside comes.more (ap (λ (y : World). y.underway) now ∙ comes.underway) (ap (λ (y : World). place_at y s) now ∙ comes.others s ne) (unnamed (is_for e s x.packet) refl (λ h. ne (elsewhere h))) q))
              by_came (inr p) = beside p.passes.more (ap (λ (y : World). y.underway) now ∙ p.passes.underway) (ap (λ (y : World). place_at y s) now ∙ p.passes.same s member) (unnamed (is_for e s x.packet) refl (p.not_for s member)) q

          over : (is_above v.vector (copy_of i.view.store file) ≡ false) ⊎ (LackedRoom c lines m l s file v ⊎ (CouldAdopt i.view file v × HasEnough e w.underway s i.view)) → Then z
          over (inl q) = low_then q
          over (inr (inl q)) = inr (inl q)
          over (inr (inr q)) = by_room q (nat_le (pages_of v.size) (free_pages i.view.store file.group)) refl

  stays_so : (j : ℕ) → j ≤ l → StaysSo 0 → StaysSo j
  stays_so zero le h = h
  stays_so (suc j) le h = one_delivery j le (stays_so j (omega (arith, le)) h)

  -- ---- its end ----

  nothing_left : (xs : List ℕ) (i : ℕ) → length xs ≤ 0 → Among i xs → ⊥
  nothing_left [] i le a = a
  nothing_left (x ∷ xs) i le a = omega (arith, le)

  pub adopted_at_end : (i : IsInside start e s) → IsReady i.view file v → HoldsTheOnly (place_at (at l)) s file v ⊎ LackedRoom c lines m l s file v
  adopted_at_end i ready = over (stays_so l (omega arith) (λ z here. first_state z here (ticked_ready i z here ready)) j.view j.here)
    where
      j : IsInside (at l) e s
      j = (calm.each l (omega arith)).inside s member

      first_state : (z : SiteView) → place_at (at 0) s ≡ Some (Running z) → IsReady z file v → (is_above v.vector (copy_of z.store file) ≡ false) ⊎ (LackedRoom c lines m l s file v ⊎ (CouldAdopt z file v × HasEnough e (at 0).underway s z))
      first_state z here (inl q) = inl q
      first_state z here (inr q) = inr (inr (q, enough_first z here))

      held : is_above v.vector (copy_of j.view.store file) ≡ false → HoldsTheOnly (place_at (at l)) s file v
      held low = holds_it c e (at l) (midst l (omega arith)) file v s (rests l (omega arith)) member j.view j.here low

      -- no notice is under way any more
      none_left : CouldAdopt j.view file v → HasEnough e (at l).underway s j.view → (b : Bool) → is_above v.vector (copy_of j.view.store file) ≡ b → HoldsTheOnly (place_at (at l)) s file v
      none_left q h false above = held above
      none_left q h true above = absurd (nothing_left h.keys (file_key file) (subst (λ (xs : List Offer). length h.keys ≤ length xs) (nothing_named c lines m e l calm s member) h.notices) (h.each (file_key file) (inl whole)))
        where
          p : Pull
          p = q.pulls.pull

          is_file : p.file ≡ file
          is_file = ap (λ (o : Offer). o.file) q.pulls.offer

          whole : HasWhole j.view (file_key file)
          whole = record {
            pull = p;
            there = (row_key pull_key (file_key file) j.view.pulls p q.pulls.found).0;
            key = (row_key pull_key (file_key file) j.view.pulls p q.pulls.found).1;
            whole = q.whole;
            above = ap (λ (f : FileId). is_above p.vector (copy_of j.view.store f)) is_file ∙ (ap (λ (o : Offer). is_above o.vector (copy_of j.view.store file)) q.pulls.offer ∙ above);
          }

      over : (is_above v.vector (copy_of j.view.store file) ≡ false) ⊎ (LackedRoom c lines m l s file v ⊎ (CouldAdopt j.view file v × HasEnough e (at l).underway s j.view)) → HoldsTheOnly (place_at (at l)) s file v ⊎ LackedRoom c lines m l s file v
      over (inl q) = inl (held q)
      over (inr (inl q)) = inr q
      over (inr (inr q)) = inl (none_left q.0 q.1 (is_above v.vector (copy_of j.view.store file)) refl)
