-- Each line keeps what a member is ready to adopt of a file that nobody has open; so from the end of one round to the start of another it
-- stays so, whatever lines stand between.
use Rattle.lawful_trace.specs.Places.{line_at}
use Rattle.std.proofs.Common.{Bool, List, None, Option, Some, [], ap, arith, false, inl, inr, length, refl, subst, suc, sym, true, zero, ℕ, ◌&&◌, ◌+◌, ◌∙◌, ◌∷◌, ◌≡◌, ◌≤◌, ◌⊎◌}
use Rattle.row_laws.proofs.OrderlyRows.Spans.{next_world, world}
use Rattle.calm_laws.specs.Carrying.{IsMember}
use Rattle.calm_laws.proofs.Convergence.Between.{Base, Course, Later, Since, happened_later, later_itself, quiet_since, stepped_since}
use Rattle.run_laws.proofs.Epochs.Run.{good_kept}
use Rattle.run_laws.specs.Epochs.Known.{Good}
use Rattle.locus_ids.specs.declared.config.Config.{Config}
use Rattle.locus_ids.specs.declared.ids.FileId.{FileId}
use Rattle.calm_laws.proofs.Pulls.Ascending.{ascend_kept}
use Rattle.store_laws.proofs.OneTree.Run.{kept as holds_kept, sent_fact}
use Rattle.store_laws.proofs.OneTree.Staying.{stays}
use Rattle.store_laws.proofs.OneTree.Worlds.{Holds}
use Rattle.row_laws.proofs.ByLine.{line_keeps}
use Rattle.calm_laws.specs.Pulls.Pulls.{PullsAscend}
use Rattle.store_laws.specs.OneTree.Roles.{RolesDo}
use Rattle.row_laws.specs.ByLine.{Gives, KeptIn}
use Rattle.row_laws.specs.Voids.{LinesFit}
use Rattle.role_steps.specs.Adoption.{mends_file}
use Rattle.role_steps.specs.Views.{Calls, Event, GivesUp, Merges, Parts, Receives, Shown, SiteView, Ticks, Told}
use Rattle.role_steps.specs.declared.rounds.InEpoch.{InEpoch}
use Rattle.role_steps.specs.declared.synchronizing.VersionRow.{VersionRow}
use Rattle.schedule_lines.specs.Ranges.{fits_call, fits_event, is_between, is_site}
use Rattle.schedule_lines.specs.declared.line.Line.{Line as LineWords}
use Rattle.schedule_lines.specs.declared.line.Line.TheVariants as line
use Rattle.schedule_lines.specs.declared.line.ScheduleLine.{ScheduleLine}
use Rattle.the_run.proofs.Boots.{at_each}
use Rattle.the_run.proofs.Events.{happened_keeps, puts_other, puts_same}
use Rattle.the_run.specs.Disks.{Armed, Booted, CutOff, Disk, Whole, boots}
use Rattle.the_run.specs.Kept.{IsOwn, Kept}
use Rattle.the_run.specs.Runs.{acts_line, boots_as, cuts_circuit, mends_circuit, rearms}
use Rattle.the_run.specs.Worlds.{Line, Place, Running, Stopped, World, arms, cause_of, fresh, happened, links_of, loses, passed, place_at, puts, script_of, stops_with}
use Rattle.trace_book.specs.declared.call.Call.{Call}
use Rattle.trace_book.specs.declared.call.Call.TheVariants as call
use Rattle.trace_book.specs.declared.record.Record.TheVariants as says
use Rattle.tree_laws.specs.Packets.{PacketFact}
use Rattle.wire_messages.specs.declared.packet.Packet.{Packet}

-- ---- what two properties keep ----

both_kept : (c : Config) (lines : List ScheduleLine) (P Q : ℕ → World → Type 0) → KeptIn c lines P → KeptIn c lines Q → KeptIn c lines (λ n w. P n w × Q n w)
both_kept c lines P Q k j = record {
  begins = λ n w le q p. (k.begins n w le q p.0, j.begins n w le q p.1);
  ticks = λ n most s v w at here p. (k.ticks n most s v w at here p.0, j.ticks n most s v w at here p.1);
  receives = λ n l x v w at d here sent p. (k.receives n l x v w at d here sent p.0, j.receives n l x v w at d here sent p.1);
  passes = λ n i w p. (k.passes n i w p.0, j.passes n i w p.1);
  drops = λ n i w p. (k.drops n i w p.0, j.drops n i w p.1);
  budgets = λ n most w at p. (k.budgets n most w at p.0, j.budgets n most w at p.1);
  voiding = λ n l w le at void p. (k.voiding n l w le at void p.0, j.voiding n l w le at void p.1);
  steps = λ n s l e v w le at gives here p. (k.steps n s l e v w le at gives here p.0, j.steps n s l e v w le at gives here p.1);
  cutting = λ n one other w le at cut p. (k.cutting n one other w le at cut p.0, j.cutting n one other w le at cut p.1);
  mending = λ n one other w le at cut p. (k.mending n one other w le at cut p.0, j.mending n one other w le at cut p.1);
  arming = λ n l a w le at it p. (k.arming n l a w le at it p.0, j.arming n l a w le at it p.1);
  pending = λ n w le at p. (k.pending n w le at p.0, j.pending n w le at p.1);
  stopping = λ n s v w le at here p. (k.stopping n s v w le at here p.0, j.stopping n s v w le at here p.1);
  booting = λ n s d w le at here p. (k.booting n s d w le at here p.0, j.booting n s d w le at here p.1);
}

-- no line gives a packet
gives_own : (w : World) (l : LineWords) (s : ℕ) (e : Event) → Gives w l s e → IsOwn e
gives_own w (line.Call site process words) s (Receives p) g = absurd g
gives_own w (line.Tick site) s (Receives p) g = absurd g
gives_own w (line.Part site) s (Receives p) g = absurd g
gives_own w (line.Merge site) s (Receives p) g = absurd g
gives_own w (line.GiveUp site) s (Receives p) g = absurd g
gives_own w _ s (Receives p) g = absurd g
gives_own w l s _ g = tt

each_kept : (c : Config) (lines : List ScheduleLine) (P : World → Type 0) → Kept c P → KeptIn c lines (λ n w. P w)
each_kept c lines P k = record {
  begins = λ n w le q p. p;
  ticks = λ n most s v w at here p. k.steps n s Ticks v w here tt p;
  receives = λ n l x v w at d here sent p. k.receives n x v w here sent p;
  passes = λ n i w p. k.passes i w p;
  drops = λ n i w p. k.drops i w p;
  budgets = λ n most w at p. k.budgets n w p;
  voiding = λ n l w le at void p. k.voiding (n + 1) w p;
  steps = λ n s l e v w le at gives here p. k.steps (n + 1) s e v w here (gives_own w l s e gives) p;
  cutting = λ n one other w le at cut p. k.recuts (cuts_circuit one other w).circuits w p;
  mending = λ n one other w le at cut p. k.recuts (mends_circuit one other w).circuits w p;
  arming = λ n l a w le at it p. k.arming a w p;
  pending = λ n w le at p. k.pending (n + 1) w p;
  stopping = λ n s v w le at here p. k.stopping (n + 1) s v w here p;
  booting = λ n s d w le at here p. k.booting (n + 1) s d w here p;
}

pub base_kept : (c : Config) (lines : List ScheduleLine) → LinesFit c lines → RolesDo c → KeptIn c lines (λ n w. Base c w)
base_kept c lines fit roles = both_kept c lines (λ n w. Holds c w) (λ n w. Good w × PullsAscend w) (holds_kept c lines fit roles (stays c)) (both_kept c lines (λ n w. Good w) (λ n w. PullsAscend w) (each_kept c lines Good (good_kept c)) (each_kept c lines PullsAscend (ascend_kept c)))

-- ---- places ----

happened_place : (n : ℕ) (ps : List Packet) (told : List Told) (w : World) (t : ℕ) → place_at (happened n ps told (λ now. now) w) t ≡ place_at w t
happened_place n ps told w t = happened_keeps (λ (u : World). place_at u t ≡ place_at w t) n ps told (λ now. now) w refl (λ l. refl) (λ k b i. refl)

-- where the place of one site changes, another one stays
other_place : (n : ℕ) (told : List Told) (change : World → World) (w : World) (s : ℕ) → place_at (change w) s ≡ place_at w s → place_at (happened n [] told change w) s ≡ place_at w s
other_place n told change w s same = happened_keeps (λ (u : World). place_at u s ≡ place_at w s) n [] told change w refl (λ l. refl) (λ k b i. same)

running_not : (d : Disk) (u : SiteView) → ◌≡◌ {A = Option Place} (Some (Stopped d)) (Some (Running u)) → ⊥
running_not d u q = cc

-- ---- calls of lines ----

false_true : false ≡ true → ⊥
false_true e = cc

line_call : (n : ℕ) (words : Call) → fits_call n words ≡ true → (file : FileId) → mends_file file words ≡ false
line_call n (call.Mend g) h file = absurd (false_true h)
line_call n _ h file = refl

called_plain : (c : Config) (w : World) (l : LineWords) (s : ℕ) (ev : Event) → fits_event c.sites l ≡ true → Gives w l s ev → (process : ℕ) (words : Call) → ev ≡ Calls process words → (file : FileId) → mends_file file words ≡ false
called_plain c w (line.Call site asked it) s (Calls p x) fits g process words is file = line_call c.sites words (subst (λ (z : Call). fits_call c.sites z ≡ true) (g.2 ∙ words_same is) (last_two (is_site c.sites site) (is_between 1 8 asked) (fits_call c.sites it) fits)) file
  where
    words_same : Calls p x ≡ Calls process words → x ≡ words
    words_same q = cc

    last_two : (a b d : Bool) → (a && b && d) ≡ true → d ≡ true
    last_two true true true h = refl
    last_two true true false h = absurd (false_true h)
    last_two true false d h = absurd (false_true h)
    last_two false b d h = absurd (false_true h)
called_plain c w (line.Tick site) s Ticks fits g process words is file = absurd (other is)
  where
    other : Ticks ≡ Calls process words → ⊥
    other q = cc
called_plain c w (line.Part site) s Parts fits g process words is file = absurd (other is)
  where
    other : Parts ≡ Calls process words → ⊥
    other q = cc
called_plain c w (line.Merge site) s Merges fits g process words is file = absurd (other is)
  where
    other : Merges ≡ Calls process words → ⊥
    other q = cc
called_plain c w (line.GiveUp site) s GivesUp fits g process words is file = absurd (other is)
  where
    other : GivesUp ≡ Calls process words → ⊥
    other q = cc
called_plain c w _ s _ fits g process words is file = absurd g

ticks_no_call : (process : ℕ) (words : Call) → Ticks ≡ Calls process words → ⊥
ticks_no_call process words q = cc

ticks_no_packet : (q : Packet) → Ticks ≡ Receives q → ⊥
ticks_no_packet q e = cc

packet_no_call : (p : Packet) (process : ℕ) (words : Call) → Receives p ≡ Calls process words → ⊥
packet_no_call p process words q = cc

packet_same : (p q : Packet) → Receives p ≡ Receives q → p ≡ q
packet_same p q e = cc

own_no_packet : (ev : Event) → IsOwn ev → (q : Packet) → ev ≡ Receives q → ⊥
own_no_packet ev own q is = subst IsOwn is own

-- ---- the lines ----

module _ (c : Config) (e : InEpoch) (file : FileId) (v : VersionRow) (s : ℕ) (member : IsMember e s) (from to : List Line) (course : Course c e file v s from to) where
  abbrev IsSince : World → Type 0
  IsSince w = Since c e file v s member from to course w

  -- nothing of the member changes
  still : (w w1 : World) → Base c w → Later c e file v s member from to course w w1 → ((u : SiteView) → place_at w1 s ≡ Some (Running u) → place_at w s ≡ Some (Running u)) → IsSince w → IsSince w1
  still w w1 b l same h = quiet_since c e file v s member from to course w w1 b l (λ u there. inl (same u there)) h

  told_since : (n : ℕ) (ps : List Packet) (told : List Told) (w : World) → Base c w → IsSince w → IsSince (happened n ps told (λ now. now) w)
  told_since n ps told w b h = still w (happened n ps told (λ now. now) w) b (happened_later c e file v s member from to course n ps told (λ now. now) w) (λ u there. sym (happened_place n ps told w s) ∙ there) h

  stops_since : (n t : ℕ) (told : List Told) (d : Disk) (w : World) → Base c w → IsSince w → IsSince (happened n [] told (stops_with t d) w)
  stops_since n t told d w b h = still w (happened n [] told (stops_with t d) w) b (happened_later c e file v s member from to course n [] told (stops_with t d) w) same h
    where
      same : (u : SiteView) → place_at (happened n [] told (stops_with t d) w) s ≡ Some (Running u) → place_at w s ≡ Some (Running u)
      same u = happened_keeps (λ (z : World). place_at z s ≡ Some (Running u) → place_at w s ≡ Some (Running u)) n [] told (stops_with t d) w (λ q. q) (λ l q. q)
          (λ k i j. at_each t s (place_at (stops_with t d w) s ≡ Some (Running u) → place_at w s ≡ Some (Running u))
          (λ eq q. absurd (running_not d u (sym (subst (λ (z : ℕ). place_at (stops_with t d w) z ≡ Some (Stopped d)) eq (puts_same t (Stopped d) w)) ∙ q)))
          (λ ne q. sym (puts_other t s (Stopped d) w ne) ∙ q))

  boots_since : (n t : ℕ) (x : Booted) (d : Disk) (w : World) → place_at w t ≡ Some (Stopped d) → Base c w → IsSince w → IsSince (boots_as n t x w)
  boots_since n t (CutOff y how) d w here b h = stops_since n t (Shown (says.Stopped t (cause_of how)) ∷ []) y w b h
  boots_since n t (Whole y a) d w here b h = quiet_since c e file v s member from to course w (boots_as n t (Whole y a) w) b (happened_later c e file v s member from to course n [] told change w) was h
    where
      told : List Told
      told = Shown (says.Up t y.label.boot) ∷ []

      change : World → World
      change now = rearms t a (puts t (Running (fresh y.label.boot y.copies)) now)

      rearmed : (o : Option Armed) (z : World) → place_at (rearms t o z) s ≡ place_at z s
      rearmed None z = refl
      rearmed (Some i) z = refl

      was : (u : SiteView) → place_at (boots_as n t (Whole y a) w) s ≡ Some (Running u) → (place_at w s ≡ Some (Running u)) ⊎ ((k : Disk) × (place_at w s ≡ Some (Stopped k)))
      was u there = at_each t s ((place_at w s ≡ Some (Running u)) ⊎ ((k : Disk) × (place_at w s ≡ Some (Stopped k))))
          (λ eq. inr (d, ap (place_at w) (sym eq) ∙ here))
          (λ ne. inl (sym (other_place n told change w s (rearmed a (puts t (Running (fresh y.label.boot y.copies)) w) ∙ puts_other t s (Running (fresh y.label.boot y.copies)) w ne)) ∙ there))

  pub since_kept : (lines : List ScheduleLine) → LinesFit c lines → RolesDo c → KeptIn c lines (λ n w. Base c w × IsSince w)
  since_kept lines fit roles = record {
    begins = λ n w le q p. p;
    ticks = λ n most t x w at here p. (k.ticks n most t x w at here p.0, stepped_since c e file v s member from to course n t Ticks (links_of w t) x w w here refl refl (λ m. refl) (λ process words is. absurd (ticks_no_call process words is)) (λ q is rest. absurd (ticks_no_packet q is)) p.0 (k.ticks n most t x w at here p.0) p.1);
    receives = λ n l y x w at d here sent p. (
      k.receives n l y x w at d here sent p.0,
      stepped_since c e file v s member from to course n y.packet.to (Receives y.packet) (links_of (passed y.number w) y.packet.to) x w (passed y.number w) here refl refl (λ m. refl) (λ process words is. absurd (packet_no_call y.packet process words is))
          (λ q is rest. subst (λ (z : Packet). PacketFact c w.trace z) (packet_same y.packet q is) (sent_fact c w y (p.0.0 rest) sent)) p.0 (k.receives n l y x w at d here sent p.0) p.1,
    );
    passes = λ n i w p. (k.passes n i w p.0, still w (passed i w) p.0 (later_itself c e file v s member from to course w (passed i w) refl (λ z. z)) (λ u there. there) p.1);
    drops = λ n i w p. (k.drops n i w p.0, still w (loses i w) p.0 (later_itself c e file v s member from to course w (loses i w) refl (λ z. z)) (λ u there. there) p.1);
    budgets = λ n most w at p. (k.budgets n most w at p.0, told_since n [] _ w p.0 p.1);
    voiding = λ n l w le at void p. (k.voiding n l w le at void p.0, told_since (n + 1) [] _ w p.0 p.1);
    steps = λ n t l ev x w le at gives here p. (
      k.steps n t l ev x w le at gives here p.0,
      stepped_since c e file v s member from to course (n + 1) t ev (links_of w t) x w w here refl refl (λ m. refl) (λ process words is. called_plain c w l t ev (fit (n + 1) l at) gives process words is) (λ q is rest. absurd (own_no_packet ev (gives_own w l t ev gives) q is)) p.0 (k.steps n t l ev x w le at gives here p.0) p.1,
    );
    cutting = λ n one other w le at cut p. (k.cutting n one other w le at cut p.0, still w (cuts_circuit one other w) p.0 (later_itself c e file v s member from to course w (cuts_circuit one other w) refl (λ z. z)) (λ u there. there) p.1);
    mending = λ n one other w le at cut p. (k.mending n one other w le at cut p.0, still w (mends_circuit one other w) p.0 (later_itself c e file v s member from to course w (mends_circuit one other w) refl (λ z. z)) (λ u there. there) p.1);
    arming = λ n l a w le at it p. (k.arming n l a w le at it p.0, still w (arms a w) p.0 (later_itself c e file v s member from to course w (arms a w) refl (λ z. z)) (λ u there. there) p.1);
    pending = λ n w le at p. (k.pending n w le at p.0, told_since (n + 1) [] _ w p.0 p.1);
    stopping = λ n t x w le at here p. (k.stopping n t x w le at here p.0, stops_since (n + 1) t _ _ w p.0 p.1);
    booting = λ n t d w le at here p. (k.booting n t d w le at here p.0, boots_since (n + 1) t (boots (script_of w t) d) d w here p.0 p.1);
  }
    where
      k : KeptIn c lines (λ n w. Base c w)
      k = base_kept c lines fit roles

  next_line : (lines : List ScheduleLine) → LinesFit c lines → RolesDo c → (n i : ℕ) → n + suc i ≤ length lines → Base c (world c lines (n + i)) × IsSince (world c lines (n + i)) → Base c (world c lines (n + suc i)) × IsSince (world c lines (n + suc i))
  next_line lines fit roles n i le before = subst (λ (k : ℕ). Base c (world c lines k) × IsSince (world c lines k)) {x = suc (n + i)} {y = n + suc i} (omega arith) one_more
    where
      next : ScheduleLine
      next = line_at lines (suc (n + i))

      kept : Base c (acts_line c ((n + i) + 1) next (world c lines (n + i))) × IsSince (acts_line c ((n + i) + 1) next (world c lines (n + i)))
      kept = line_keeps c lines (λ k w. Base c w × IsSince w) (since_kept lines fit roles) (n + i) next (world c lines (n + i)) (omega (arith, le)) (ap (line_at lines) {x = (n + i) + 1} {y = suc (n + i)} (omega arith)) before

      one_more : Base c (world c lines (suc (n + i))) × IsSince (world c lines (suc (n + i)))
      one_more = subst (λ (w : World). Base c w × IsSince w) (ap (λ (k : ℕ). acts_line c k next (world c lines (n + i))) {x = (n + i) + 1} {y = suc (n + i)} (omega arith) ∙ sym (next_world c lines (n + i))) kept

  -- from the end of one line to the end of a later one
  pub since_line : (lines : List ScheduleLine) → LinesFit c lines → RolesDo c → (n i : ℕ) → n + i ≤ length lines → Base c (world c lines n) × IsSince (world c lines n) → Base c (world c lines (n + i)) × IsSince (world c lines (n + i))
  since_line lines fit roles n zero le p = subst (λ (k : ℕ). Base c (world c lines k) × IsSince (world c lines k)) {x = n} {y = n + 0} (omega arith) p
  since_line lines fit roles n (suc i) le p = next_line lines fit roles n i le (since_line lines fit roles n i (omega (arith, le)) p)
