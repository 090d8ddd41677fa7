-- In a calm round in which nobody has a file open what a member waits for, which pulls the only kept version over its copy, is on its way at
-- each moment; so at its end it has pulled it whole.
use Rattle.std.proofs.Common.{Bool, List, None, Option, Some, [], ap, arith, false, inl, inr, refl, subst, suc, sym, true, zero, ℕ, ◌&&◌, ◌++◌, ◌==◌, ◌∙◌, ◌≡◌, ◌≢◌, ◌≤◌, ◌⊎◌}
use Rattle.std.proofs.lemmas.Bool.Decides.{nat_tests}
use Rattle.calm_laws.proofs.Calm.{calm_in_round}
use Rattle.calm_laws.proofs.Events.{others_stay}
use Rattle.calm_laws.proofs.Members.{nothing_goes}
use Rattle.calm_laws.proofs.Moments.{GoesOn, goes_itself, goes_round_kept}
use Rattle.calm_laws.proofs.Rounds.{one_more}
use Rattle.calm_laws.specs.Carrying.{IsMember, frame_of}
use Rattle.calm_laws.specs.Rounds.{Delivery, IsCalm, IsInRound, after}
use Rattle.calm_laws.proofs.Convergence.Coming.{Comes, ascends_in, comes_step}
use Rattle.calm_laws.proofs.Convergence.Happening.{Before, Happened, before_in, remains_in, taken_happens}
use Rattle.calm_laws.proofs.Convergence.Midst.{Midst, midst_in, pull_in}
use Rattle.calm_laws.proofs.Convergence.Passing.{IsPassed, taken_or_passed}
use Rattle.calm_laws.proofs.Convergence.PulledAnswers.{answered}
use Rattle.calm_laws.proofs.Convergence.PulledCarried.{Brings, Carries, IsGoing, OnWay}
use Rattle.calm_laws.proofs.Convergence.PulledComing.{brought, comes_so}
use Rattle.calm_laws.proofs.Convergence.PulledHeld.{Settled, holder_member, settled_at}
use Rattle.calm_laws.proofs.Convergence.PulledSteps.{AllGo, Pulling, file_is, known_alone, pull_there, pulled_before, settled}
use Rattle.calm_laws.proofs.Convergence.PulledTicks.{calm_asks}
use Rattle.calm_laws.proofs.Convergence.Starting.{within_after}
use Rattle.calm_laws.specs.Convergence.Copies.{NobodyHasOpen}
use Rattle.calm_laws.specs.Convergence.Offers.{is_for}
use Rattle.calm_laws.specs.Convergence.Rounds.{IsUndisturbed}
use Rattle.run_laws.specs.Epochs.Forming.{FormsNone}
use Rattle.lawful_trace.specs.Places.{lines_before}
use Rattle.locus_ids.specs.declared.config.Config.{Config}
use Rattle.locus_ids.specs.declared.ids.FileId.{FileId}
use Rattle.row_laws.proofs.Orderly.Formed.{among_left}
use Rattle.row_laws.proofs.Orderly.Places.{view_eq}
use Rattle.row_laws.proofs.Orderly.Rounds.{arrives_kept, next_among}
use Rattle.row_laws.specs.Orderly.Calm.{AreTogether, delivers_next}
use Rattle.role_steps.proofs.of_plain_facts.Numbers.{equal_self}
use Rattle.role_steps.proofs.of_plain_facts.Tests.{true_false}
use Rattle.role_steps.specs.Pulling.{is_complete, next_asked}
use Rattle.role_steps.specs.Tables.{without_row}
use Rattle.role_steps.specs.Views.{Receives, SiteView, all_sites, boot_in, packet}
use Rattle.role_steps.specs.declared.pulls.Pull.{Pull}
use Rattle.role_steps.specs.declared.rounds.InEpoch.{InEpoch}
use Rattle.schedule_lines.specs.declared.line.ScheduleLine.{ScheduleLine}
use Rattle.the_run.proofs.Boots.{at_each}
use Rattle.the_run.specs.Kept.{Among}
use Rattle.the_run.specs.Runs.{arrives, next_packet, run_in, ticks_to}
use Rattle.the_run.specs.Steps.{step, takes_inside}
use Rattle.the_run.specs.Worlds.{Numbered, Running, World, links_of, number_of, passed, place_at}
use Rattle.trace_book.specs.Same.{same_epoch}
use Rattle.tree_laws.specs.Instances.{HasAtLeast}
use Rattle.wire_messages.specs.declared.body.Body.{Body}
use Rattle.wire_messages.specs.declared.packet.Packet.{Packet}

-- what was under way is so still, but for the packet that came
stays_under : (x y : Numbered) (w : World) (after more : List Numbered) → after ≡ without_row number_of x.number w.underway ++ more → Among y (passed x.number w).underway → Among y after
stays_under x y w after more eq a = subst (λ (l : List Numbered). Among y l) (sym eq) (among_left y (without_row number_of x.number w.underway) more a)

-- ---- a member takes a packet ----

module _ (c : Config) (lines : List ScheduleLine) (n : ℕ) (e : InEpoch) (x : Numbered) (w : World) (d : Delivery c lines n e x w) (file : FileId) (nobody : NobodyHasOpen c e (place_at w) file) where
  abbrev w1 : World
  w1 = arrives c n x w

  k : Midst c e w
  k = midst_in c lines n e w d.round d.before

  k1 : Midst c e w1
  k1 = midst_in c lines n e w1 d.follows d.after

  goes : GoesOn w w1
  goes = arrives_kept c n (GoesOn w) (goes_round_kept c n w) x w (next_among w w.over x d.next) (goes_itself w)

  module _ (s : ℕ) (m : IsMember e s) (old : AllGo c e w s file) (y : SiteView) (p : Pull) (g : Pulling c e w1 s file y p) (unfinished : is_complete p ≡ false) where
    was_there : (v : SiteView) → place_at w s ≡ Some (Running v) → Among p v.pulls → (Pulling c e w s file v p → Settled c e w file p.stamp → Brings c e s p x.packet → OnWay c e w1 s p) → OnWay c e w1 s p
    was_there v here a brings = by (old v p before)
      where
        stands : Settled c e w file p.stamp
        stands = settled c lines n e w w1 goes d.round d.before d.follows d.after file nobody s m y p g v here a

        before : Pulling c e w s file v p
        before = pulled_before c lines n e w w1 goes d.round d.before d.follows d.after file nobody s m y p g v here a

        carried : Carries c e s p x.packet → OnWay c e w1 s p
        carried (inl asks) = answered c lines n e x w d file s v p stands m here a (file_is c e w k s m file v p before) asks unfinished (known_alone c e w k s m file v p before)
        carried (inr b) = brings before stands b

        by_letter : (l : OnWay c e w s p) → Among l.letter (passed x.number w).underway ⊎ (l.letter.packet ≡ x.packet) → OnWay c e w1 s p
        by_letter l (inl b) = (let q = comes_step c lines n e x w d in record { letter = l.letter; there = stays_under x l.letter w w1.underway q.more q.underway b; carries = l.carries })
        by_letter l (inr same) = carried (subst (Carries c e s p) same l.carries)

        by : IsGoing c e w s p → OnWay c e w1 s p
        by (inl done) = absurd (true_false (sym done ∙ unfinished))
        by (inr l) = by_letter l (others_stay x w (ascends_in c lines n w d.round) (next_among w w.over x d.next) l.letter l.there)

    theirs : x.packet.to ≢ s → OnWay c e w1 s p
    theirs ne = was_there y (sym ((comes_step c lines n e x w d).others s ne) ∙ g.here) (pull_there c e w1 k1 s m file y p g).0 (λ before stands b. absurd (ne (ap (λ (q : Packet). q.to) b.is)))

  -- at the member itself
  own : AllGo c e w x.packet.to file → (y : SiteView) (p : Pull) → Pulling c e w1 x.packet.to file y p → is_complete p ≡ false → OnWay c e w1 x.packet.to p
  own old y p g unfinished = comes_so c lines n e x w d u p b h unfinished there (OnWay c e w1 s p) (λ q. q)
      (λ a brings. was_there s d.member old y p g unfinished d.view d.here a (λ before stands q. by before stands q brings))
    where
      s : ℕ
      s = x.packet.to

      u : SiteView
      u = (step c s (links_of (passed x.number w) s) d.view (Receives x.packet)).view

      comes : Comes c n x w u
      comes = comes_step c lines n e x w d

      b : Before c e s d.view
      b = before_in c e w k s d.view d.member d.here

      h : Happened c e s d.view u (Receives x.packet)
      h = taken_happens c e s (links_of (passed x.number w) s) d.view b x.packet (remains_in c e w1 k1 s u d.member comes.here) d.taken

      there : Among p u.pulls
      there = subst (λ (z : SiteView). Among p z.pulls) (view_eq (place_at w1 s) y u g.here comes.here) (pull_there c e w1 k1 s d.member file y p g).0

      by : Pulling c e w s file d.view p → Settled c e w file p.stamp → Brings c e s p x.packet → (Brings c e s p x.packet → ⊥) ⊎ (FormsNone x.packet.body × (x.packet.epoch ≡ e.id) × Among p (takes_inside (frame_of c e s) x.packet.from x.packet.body d.view).view.pulls) → OnWay c e w1 s p
      by before stands q (inl never) = absurd (never q)
      by before stands q (inr t) = brought c lines n e x w d file p k stands before unfinished t.0 t.1 b.epoch t.2 q

  pub delivered_goes : (s : ℕ) → IsMember e s → AllGo c e w s file → AllGo c e w1 s file
  delivered_goes s m old y p g = over (is_complete p) refl
    where
      At : ℕ → Type 0
      At t = AllGo c e w t file → (y : SiteView) (p : Pull) → Pulling c e w1 t file y p → is_complete p ≡ false → OnWay c e w1 t p

      over : (b : Bool) → is_complete p ≡ b → IsGoing c e w1 s p
      over true q = inl q
      over false q = inr (at_each x.packet.to s (OnWay c e w1 s p) (λ eq. subst At eq own old y p g q) (λ ne. theirs s m old y p g q ne))

-- ---- a packet that no member takes ----

-- a packet between members is for its receiver
goes_for : (c : Config) (e : InEpoch) (from to : ℕ) (b : Body) → is_for e to (packet (frame_of c e from) to b) ≡ true
goes_for c e from to b = all (to == to) (boot_in e.members.boot to == boot_in e.members.boot to) (same_epoch e.id e.id) (boot_in e.members.boot from == boot_in e.members.boot from) (equal_self to) (equal_self (boot_in e.members.boot to)) epoch_itself (equal_self (boot_in e.members.boot from))
  where
    epoch_itself : same_epoch e.id e.id ≡ true
    epoch_itself = grind (arith, nat_tests)

    all : (i j k l : Bool) → i ≡ true → j ≡ true → k ≡ true → l ≡ true → (i && (j && (k && l))) ≡ true
    all true true true true a b d g = refl
    all true true true false a b d g = absurd (true_false (sym g))
    all true true false l a b d g = absurd (true_false (sym d))
    all true false k l a b d g = absurd (true_false (sym b))
    all false j k l a b d g = absurd (true_false (sym a))

passed_goes : (c : Config) (lines : List ScheduleLine) (n : ℕ) (e : InEpoch) (x : Numbered) (w : World) (file : FileId) → NobodyHasOpen c e (place_at w) file → IsInRound c lines n w → next_packet w ≡ Some x → IsInRound c lines n (arrives c n x w) → AreTogether w e → AreTogether (arrives c n x w) e → IsPassed c n e x w →
    (s : ℕ) → IsMember e s → AllGo c e w s file → AllGo c e (arrives c n x w) s file
passed_goes c lines n e x w file nobody round next follows together later gone s m old y p g = over (is_complete p) refl
  where
    w1 : World
    w1 = arrives c n x w

    k : Midst c e w
    k = midst_in c lines n e w round together

    k1 : Midst c e w1
    k1 = midst_in c lines n e w1 follows later

    there : Among x w.underway
    there = next_among w w.over x next

    goes : GoesOn w w1
    goes = arrives_kept c n (GoesOn w) (goes_round_kept c n w) x w there (goes_itself w)

    here : place_at w s ≡ Some (Running y)
    here = sym (gone.passes.same s m) ∙ g.here

    a : Among p y.pulls
    a = (pull_there c e w1 k1 s m file y p g).0

    stands : Settled c e w file p.stamp
    stands = settled c lines n e w w1 goes round together follows later file nobody s m y p g y here a

    before : Pulling c e w s file y p
    before = pulled_before c lines n e w w1 goes round together follows later file nobody s m y p g y here a

    holder : IsMember e p.holder
    holder = holder_member c e w file p.stamp stands s p.holder m (subst (λ (f : FileId). HasAtLeast c w.trace e.id p.holder f p.stamp) (file_is c e w k s m file y p before) (pull_in c e w k s y m here p a).holds)

    never : Carries c e s p x.packet → ⊥
    never (inl asks) = gone.not_for p.holder holder (subst (λ (q : Packet). is_for e p.holder q ≡ true) (sym asks.is) (goes_for c e s p.holder (next_asked p p.base p.wanted)))
    never (inr b) = gone.not_for s m (subst (λ (q : Packet). is_for e s q ≡ true) (sym b.is) (goes_for c e b.from s b.answer))

    by_letter : (l : OnWay c e w s p) → Among l.letter (passed x.number w).underway ⊎ (l.letter.packet ≡ x.packet) → IsGoing c e w1 s p
    by_letter l (inl b) = inr (record { letter = l.letter; there = stays_under x l.letter w w1.underway gone.passes.more gone.passes.underway b; carries = l.carries })
    by_letter l (inr same) = absurd (never (subst (Carries c e s p) same l.carries))

    by : IsGoing c e w s p → IsGoing c e w1 s p
    by (inl done) = inl done
    by (inr l) = by_letter l (others_stay x w (ascends_in c lines n w round) there l.letter l.there)

    over : (b : Bool) → is_complete p ≡ b → IsGoing c e w1 s p
    over true q = inl q
    over false q = by (old y p before)

-- ---- in a calm round ----

module _ (c : Config) (lines : List ScheduleLine) (n : ℕ) (e : InEpoch) (k : ℕ) (calm : IsCalm c lines n e k) (file : FileId) (undisturbed : IsUndisturbed c lines n e k file) (s : ℕ) (m : IsMember e s) where
  abbrev at : ℕ → World
  at j = after c lines n j

  begun_goes : AllGo c e (at 0) s file
  begun_goes y p g = over (is_complete p) refl
    where
      mid : Midst c e (at 0)
      mid = midst_in c lines n e (at 0) (calm_in_round c lines n e k 0 calm (omega arith)) (calm.each 0 (omega arith))

      over : (b : Bool) → is_complete p ≡ b → IsGoing c e (at 0) s p
      over true q = inl q
      over false q = (let u = calm_asks c lines n e k calm s m y g.here p (pull_there c e (at 0) mid s m file y p g).0 q in inr (record { letter = u.letter; there = u.there; carries = inl (record { is = u.is }) }))

  all_go : (j : ℕ) → j ≤ k → AllGo c e (at j) s file
  all_go zero le = begun_goes
  all_go (suc j) le = by_next (next_packet w) refl (one_more c n j (ticks_to c n all_sites (run_in c (lines_before lines n)))) (all_go j (omega (arith, le)))
    where
      w : World
      w = at j

      low : j ≤ k
      low = omega (arith, le)

      by_next : (o : Option Numbered) → next_packet w ≡ o → at (suc j) ≡ delivers_next c n w (next_packet w) → AllGo c e w s file → AllGo c e (at (suc j)) s file
      by_next None is eq old = subst (λ (z : World). AllGo c e z s file) (sym (eq ∙ ap (delivers_next c n w) is)) old
      by_next (Some x) is eq old = subst (λ (z : World). AllGo c e z s file) (sym now) (over (taken_or_passed c lines n e x w round is follows (calm.each j low) later (ap (λ (z : World). z.over) (sym now) ∙ within_after c lines n e k calm (suc j) le)))
        where
          now : at (suc j) ≡ arrives c n x w
          now = eq ∙ ap (delivers_next c n w) is

          round : IsInRound c lines n w
          round = calm_in_round c lines n e k j calm low

          follows : IsInRound c lines n (arrives c n x w)
          follows = subst (λ (z : World). IsInRound c lines n z) now (calm_in_round c lines n e k (suc j) calm le)

          later : AreTogether (arrives c n x w) e
          later = subst (λ (z : World). AreTogether z e) now (calm.each (suc j) le)

          over : Delivery c lines n e x w ⊎ IsPassed c n e x w → AllGo c e (arrives c n x w) s file
          over (inl d) = delivered_goes c lines n e x w d file (undisturbed w (inr (j, low, refl))) s m old
          over (inr gone) = passed_goes c lines n e x w file (undisturbed w (inr (j, low, refl))) round is follows (calm.each j low) later gone s m old

  -- at its end no packet can come any more
  pub whole_at_the_end : (y : SiteView) (p : Pull) → Pulling c e (at k) s file y p → is_complete p ≡ true
  whole_at_the_end y p g = over (all_go k (omega arith) y p g)
    where
      w : World
      w = at k

      round : IsInRound c lines n w
      round = calm_in_round c lines n e k k calm (omega arith)

      together : AreTogether w e
      together = calm.each k (omega arith)

      mid : Midst c e w
      mid = midst_in c lines n e w round together

      a : Among p y.pulls
      a = (pull_there c e w mid s m file y p g).0

      is_file : p.file ≡ file
      is_file = file_is c e w mid s m file y p g

      stands : Settled c e w file p.stamp
      stands = settled_at c lines n e w [] w.trace file s y p round together (undisturbed w (inr (k, omega arith, refl))) mid.past refl m g.here a is_file g.kept

      holder : IsMember e p.holder
      holder = holder_member c e w file p.stamp stands s p.holder m (subst (λ (f : FileId). HasAtLeast c w.trace e.id p.holder f p.stamp) is_file (pull_in c e w mid s y m g.here p a).holds)

      by_letter : (l : OnWay c e w s p) → Carries c e s p l.letter.packet → is_complete p ≡ true
      by_letter l (inl asks) = absurd (nothing_goes c e w s p.holder (next_asked p p.base p.wanted) l.letter together calm.reach calm.within calm.ended l.there (record { sender = m; receiver = holder; is = asks.is }))
      by_letter l (inr b) = absurd (nothing_goes c e w b.from s b.answer l.letter together calm.reach calm.within calm.ended l.there (record { sender = b.member; receiver = m; is = b.is }))

      over : IsGoing c e w s p → is_complete p ≡ true
      over (inl done) = done
      over (inr l) = by_letter l l.carries
