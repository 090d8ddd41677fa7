-- By the end of a calm round in which a file is undisturbed, each close of an instance of it has ended: while its storage site is closing
-- one, the Closed to its synchronization site or the answer to that is under way.
use Rattle.std.proofs.Common.{Bool, List, None, Option, Some, [], ap, arith, false, inl, inr, refl, subst, suc, sym, true, zero, ℕ, ◌++◌, ◌==◌, ◌∙◌, ◌∷◌, ◌≡◌, ◌≢◌, ◌≤◌, ◌⊎◌}
use Rattle.std.proofs.lemmas.Bool.Decides.{nat_tests}
use Rattle.calm_laws.proofs.Calm.{calm_in_round}
use Rattle.calm_laws.proofs.Delivered.{inside_fact}
use Rattle.calm_laws.proofs.Events.{Under, others_stay}
use Rattle.calm_laws.proofs.Facts.{round_facts}
use Rattle.calm_laws.proofs.Members.{nothing_goes, sync_is}
use Rattle.calm_laws.proofs.Requests.{to_some_has}
use Rattle.calm_laws.proofs.Rounds.{one_more}
use Rattle.calm_laws.specs.Carrying.{IsMember, frame_of}
use Rattle.calm_laws.specs.Rounds.{Delivery, IsCalm, IsInRound, after}
use Rattle.calm_laws.proofs.Convergence.Coming.{Ends, ascends_in, ends_keep}
use Rattle.calm_laws.proofs.Convergence.Due.{calm_notifies}
use Rattle.calm_laws.proofs.Convergence.DueSteps.{sent_under}
use Rattle.calm_laws.proofs.Convergence.FreeAnswered.{IsOver, is_over, over_answers}
use Rattle.calm_laws.proofs.Convergence.FreeClosing.{TellsClosing, inside_told, tries_instances}
use Rattle.calm_laws.proofs.Convergence.FreeEvents.{EndsSo, IsOfEpoch, IsOfForming, event_ends}
use Rattle.calm_laws.proofs.Convergence.Noticing.{among_flat, table_notices}
use Rattle.calm_laws.proofs.Convergence.Passing.{IsPassed, taken_or_passed}
use Rattle.calm_laws.proofs.Convergence.Starting.{within_after}
use Rattle.calm_laws.specs.Convergence.Converging.{FormsEpochs, IsClosing, NoneCloses}
use Rattle.calm_laws.specs.Convergence.Offers.{is_for}
use Rattle.calm_laws.specs.Convergence.Rounds.{IsUndisturbed}
use Rattle.lawful_trace.specs.Places.{lines_before}
use Rattle.locus_ids.specs.declared.config.Config.{Config}
use Rattle.locus_ids.specs.declared.ids.FileId.{FileId}
use Rattle.row_laws.proofs.Orderly.Formed.{among_left}
use Rattle.row_laws.proofs.Orderly.Places.{view_eq}
use Rattle.row_laws.proofs.Orderly.Rounds.{next_among}
use Rattle.row_laws.specs.Orderly.Calm.{AreTogether, delivers_next}
use Rattle.store_laws.proofs.Tabled.{apart_latest, latest_same}
use Rattle.role_steps.proofs.of_plain_facts.Options.{some_same}
use Rattle.role_steps.specs.Own.{Every}
use Rattle.role_steps.specs.Storage.{closed_again, ends_at, instance_key, on_closed_ok, on_closed_ok_of, store_repeats}
use Rattle.role_steps.specs.Tables.{row, with_latest}
use Rattle.role_steps.specs.Views.{Frame, SiteView, Store, all_sites, packet, sync_site}
use Rattle.role_steps.specs.declared.instances.Instance.{Instance}
use Rattle.role_steps.specs.declared.instances.Stage.{Stage}
use Rattle.role_steps.specs.declared.instances.Stage.TheVariants as stage
use Rattle.role_steps.specs.declared.rounds.InEpoch.{InEpoch}
use Rattle.schedule_lines.specs.declared.line.ScheduleLine.{ScheduleLine}
use Rattle.the_run.proofs.Boots.{at_each}
use Rattle.the_run.specs.Kept.{Among}
use Rattle.the_run.specs.Runs.{arrives, next_packet, run_in, ticks_to}
use Rattle.the_run.specs.Steps.{ends_event, takes_inside}
use Rattle.the_run.specs.Worlds.{Numbered, Running, World, passed, place_at}
use Rattle.tree_laws.specs.Stores.{AreApart}
use Rattle.wire_messages.specs.declared.body.Body.{Body}
use Rattle.wire_messages.specs.declared.body.Body.TheVariants as body
use Rattle.wire_messages.specs.declared.body.CloseAnswer.{CloseAnswer}
use Rattle.wire_messages.specs.declared.body.MadeVersion.{MadeVersion}
use Rattle.wire_messages.specs.declared.packet.Packet.{Packet}

-- ---- lists ----

apart_found : {A : Type 0} (key : A → ℕ) (x : A) (xs : List A) → AreApart key xs → Among x xs → row key (key x) xs ≡ Some x
apart_found key x [] h a = absurd a
apart_found {A = A} key x (y ∷ ys) h (inl e) = over (key y == key x) (ap (λ (z : A). key y == key z) e ∙ own (key y))
  where
    own : (i : ℕ) → (i == i) ≡ true
    own i = grind (arith, nat_tests)

    over : (b : Bool) → b ≡ true → ◌≡◌ {A = Option A} (elim b [ true ↦ Some y | false ↦ row key (key x) ys ]) (Some x)
    over true k = ap Some (sym e)
    over false k = absurd (false_true k)
      where
        false_true : false ≡ true → ⊥
        false_true q = cc
apart_found {A = A} key x (y ∷ ys) h (inr a) = over (key y == key x) refl (apart_found key x ys h.1 a)
  where
    equal : (i j : ℕ) → (i == j) ≡ true → i ≡ j
    equal i j q = grind (arith, nat_tests)

    among_every : (P : A → Type 0) (zs : List A) → Among x zs → Every P zs → P x
    among_every P [] b f = absurd b
    among_every P (z ∷ zs) (inl q) f = subst P (sym q) f.0
    among_every P (z ∷ zs) (inr b) f = among_every P zs b f.1

    over : (b : Bool) → (key y == key x) ≡ b → row key (key x) ys ≡ Some x → ◌≡◌ {A = Option A} (elim b [ true ↦ Some y | false ↦ row key (key x) ys ]) (Some x)
    over true k later = absurd (among_every (λ (z : A). key z ≡ key y → ⊥) ys a h.0 (sym (equal (key y) (key x) k)))
    over false k later = later

-- ---- a close ends ----

-- an instance whose close is answered is closing no more
closed_gone : (f : Frame) (s : Store) (i : Instance) → AreApart instance_key s.instances → Among i s.instances → IsClosing i.stage → Among i (on_closed_ok f i.inst s).view.instances → ⊥
closed_gone f s i apart a closes b = at i.stage refl closes (subst (λ (o : Option Instance). Among i (on_closed_ok_of f o s).view.instances) (apart_found instance_key i s.instances apart a) b)
  where
    at : (z : Stage) → i.stage ≡ z → IsClosing z → Among i (ends_at f i z s).view.instances → ⊥
    at stage.Running e k m = k
    at (stage.Closed r) e k m = k
    at (stage.Closing made r) e k m = subst (λ (z : Stage). IsClosing z) (ap (λ (z : Instance). z.stage) same) closes
      where
        new : Instance
        new = record i { stage = stage.Closed r }

        same : i ≡ record i { stage = stage.Closed r }
        same = some_same i (record i { stage = stage.Closed r }) (sym (apart_found instance_key i (with_latest instance_key (record i { stage = stage.Closed r }) s.instances) (apart_latest instance_key (record i { stage = stage.Closed r }) s.instances apart) m) ∙ latest_same instance_key (record i { stage = stage.Closed r }) s.instances)

-- ---- packets ----

-- one that was under way is so still, or it came
still_under : (c : Config) (lines : List ScheduleLine) (n : ℕ) (w u : World) (x : Numbered) (more : List Numbered) → IsInRound c lines n w → next_packet w ≡ Some x → u.underway ≡ (passed x.number w).underway ++ more → (q : Packet) → Under w.underway q → Under u.underway q ⊎ (x.packet ≡ q)
still_under c lines n w u x more round next is q h = over (others_stay x w (ascends_in c lines n w round) (next_among w w.over x next) h.letter h.there)
  where
    over : Among h.letter (passed x.number w).underway ⊎ (h.letter.packet ≡ x.packet) → Under u.underway q ⊎ (x.packet ≡ q)
    over (inl m) = inl (record { letter = h.letter; there = subst (λ (l : List Numbered). Among h.letter l) (sym is) (among_left h.letter (passed x.number w).underway more m); is = h.is })
    over (inr same) = inr (sym same ∙ h.is)

-- one from member to member is for its receiver
goes_for : (c : Config) (e : InEpoch) (from to : ℕ) (b : Body) → is_for e to (packet (frame_of c e from) to b) ≡ true
goes_for c e from to b = grind (arith, nat_tests)

-- a packet of the close is under way
abbrev IsGoing : Config → InEpoch → ℕ → ℕ → World → Instance → Option MadeVersion → Type 0
IsGoing c e css s w i made = Under w.underway (packet (frame_of c e s) css (body.Closed i.inst made)) ⊎ Under w.underway (packet (frame_of c e css) s (body.ClosedOk i.inst))

-- so it is with each instance of the file that the site is closing
abbrev AllGo : Config → InEpoch → ℕ → ℕ → FileId → World → Type 0
AllGo c e css s file w = (v : SiteView) → place_at w s ≡ Some (Running v) → (i : Instance) → Among i v.store.instances → i.file ≡ file → (made : Option MadeVersion) (a : CloseAnswer) → i.stage ≡ stage.Closing made a → IsGoing c e css s w i made

closing_as : (z : Stage) → IsClosing z → (made : Option MadeVersion) × (a : CloseAnswer) × (z ≡ stage.Closing made a)
closing_as stage.Running h = absurd h
closing_as (stage.Closing made a) h = (made, a, refl)
closing_as (stage.Closed a) h = absurd h

-- ---- the round ----

module _ (c : Config) (lines : List ScheduleLine) (n : ℕ) (e : InEpoch) (k : ℕ) (calm : IsCalm c lines n e k) (file : FileId) (undisturbed : IsUndisturbed c lines n e k file) (css : ℕ) (synced : sync_site c e.members file.group ≡ Some css) (s : ℕ) (member : IsMember e s) where
  abbrev at : ℕ → World
  at j = after c lines n j

  abbrev start : World
  start = run_in c (lines_before lines n)

  abbrev Go : World → Type 0
  Go w = AllGo c e css s file w

  round : (j : ℕ) → j ≤ k → IsInRound c lines n (at j)
  round j le = calm_in_round c lines n e k j calm le

  is_css : IsMember e css
  is_css = (sync_is c e file.group css synced).1

  told_of : (i : Instance) → i.file ≡ file → sync_site c e.members i.file.group ≡ Some css
  told_of i is = ap (λ (f : FileId). sync_site c e.members f.group) is ∙ synced

  ticked_go : Go (at 0)
  ticked_go v here i a is made r closes = inl (calm_notifies c lines n e k calm s member v here q (among_left q (store_repeats f v.store) (table_notices f v)
      (among_flat (λ (x : Instance). closed_again f x x.stage) i q v.store.instances a (subst (λ (z : Stage). Among q (closed_again f i z)) (sym closes) (to_some_has c e s css (body.Closed i.inst made) (sync_site c e.members i.file.group) (told_of i is))))))
    where
      f : Frame
      f = frame_of c e s

      q : Packet
      q = packet (frame_of c e s) css (body.Closed i.inst made)

  -- a Closed that comes to the synchronization site is answered
  answered : (j : ℕ) → j ≤ k → (x : Numbered) → (g : Delivery c lines n e x (at j)) → (u : SiteView) → place_at (at j) s ≡ Some (Running u) → (i : Instance) → Among i u.store.instances → i.file ≡ file → (made : Option MadeVersion) (r : CloseAnswer) → i.stage ≡ stage.Closing made r →
      x.packet ≡ packet (frame_of c e s) css (body.Closed i.inst made) → Under (arrives c n x (at j)).underway (packet (frame_of c e css) s (body.ClosedOk i.inst))
  answered j le x g u there i a is made r closes eq = sent_under c lines n e x (at j) (body.Closed i.inst made) g (ap (λ (p : Packet). p.body) eq) tt (packet (frame_of c e css) s (body.ClosedOk i.inst))
      (subst (λ (p : Packet). Among (packet (frame_of c e css) s (body.ClosedOk i.inst)) (takes_inside (frame_of c e p.to) p.from (body.Closed i.inst made) g.view).sent) (sym eq) (over_answers (frame_of c e css) s i.inst made g.view over))
    where
      over : IsOver g.view i.inst
      over = is_over c lines n e (at j) (round j le) (calm.each j le) file css synced (undisturbed (at j) (inr (j, le, refl))) g.view (ap (λ (p : Packet). place_at (at j) p.to) (sym eq) ∙ g.here) s member u there i a is made r closes

  -- what goes on of it as a packet comes, which isn't its answer at the site
  goes_taken : (j : ℕ) (le : j ≤ k) (x : Numbered) → (g : Delivery c lines n e x (at j)) → (u : SiteView) → place_at (at j) s ≡ Some (Running u) → (i : Instance) → Among i u.store.instances → i.file ≡ file → (made : Option MadeVersion) (r : CloseAnswer) → i.stage ≡ stage.Closing made r →
      (x.packet ≡ packet (frame_of c e css) s (body.ClosedOk i.inst) → ⊥) → IsGoing c e css s (at j) i made → IsGoing c e css s (arrives c n x (at j)) i made
  goes_taken j le x g u there i a is made r closes unanswered h = over h
    where
      ev : EndsSo c n e x (at j) g.view
      ev = event_ends c lines n e x (at j) g

      told : Under (arrives c n x (at j)).underway (packet (frame_of c e s) css (body.Closed i.inst made)) ⊎ (x.packet ≡ packet (frame_of c e s) css (body.Closed i.inst made)) → IsGoing c e css s (arrives c n x (at j)) i made
      told (inl k) = inl k
      told (inr eq) = inr (answered j le x g u there i a is made r closes eq)

      back : Under (arrives c n x (at j)).underway (packet (frame_of c e css) s (body.ClosedOk i.inst)) ⊎ (x.packet ≡ packet (frame_of c e css) s (body.ClosedOk i.inst)) → IsGoing c e css s (arrives c n x (at j)) i made
      back (inl k) = inr k
      back (inr eq) = absurd (unanswered eq)

      over : IsGoing c e css s (at j) i made → IsGoing c e css s (arrives c n x (at j)) i made
      over (inl q) = told (still_under c lines n (at j) (arrives c n x (at j)) x ev.comes.more (round j le) g.next ev.comes.underway (packet (frame_of c e s) css (body.Closed i.inst made)) q)
      over (inr q) = back (still_under c lines n (at j) (arrives c n x (at j)) x ev.comes.more (round j le) g.next ev.comes.underway (packet (frame_of c e css) s (body.ClosedOk i.inst)) q)

  -- a delivery that the site itself takes
  mine_goes : (j : ℕ) → j ≤ k → (x : Numbered) → (g : Delivery c lines n e x (at j)) → x.packet.to ≡ s → Go (at j) → Go (arrives c n x (at j))
  mine_goes j le x g eq old v here i a is made r closes = by_handler ev.by
    where
      ev : EndsSo c n e x (at j) g.view
      ev = event_ends c lines n e x (at j) g

      is_view : v ≡ (ends_event c x.packet.to ev.links ev.last).view
      is_view = view_eq (place_at (arrives c n x (at j)) x.packet.to) v ev.view (ap (place_at (arrives c n x (at j))) eq ∙ here) ev.comes.here ∙ ev.ended

      ends : Ends ev.last (ends_event c x.packet.to ev.links ev.last).view
      ends = ends_keep c x.packet.to ev.links ev.last e ev.round ev.epoch

      handled : Among i ev.last.store.instances
      handled = subst (λ (st : Store). Among i st.instances) (ap (λ (y : SiteView). y.store) is_view ∙ ends.store) a

      was : place_at (at j) s ≡ Some (Running g.view)
      was = ap (place_at (at j)) (sym eq) ∙ g.here

      is_closing : IsClosing i.stage
      is_closing = subst IsClosing (sym closes) tt

      apart : AreApart instance_key g.view.store.instances
      apart = (inside_fact c e (at j) s g.view (round_facts c lines n (at j) (round j le)).fact (calm.each j le) member was).store.instances.apart

      from_old : Among i g.view.store.instances → (x.packet ≡ packet (frame_of c e css) s (body.ClosedOk i.inst) → ⊥) → IsGoing c e css s (arrives c n x (at j)) i made
      from_old m unanswered = goes_taken j le x g g.view was i m is made r closes unanswered (old g.view was i m is made r closes)

      by_handler : IsOfEpoch c e x g.view ev.last ⊎ IsOfForming x g.view ev.last → IsGoing c e css s (arrives c n x (at j)) i made
      by_handler (inr z) = from_old (subst (λ (st : Store). Among i st.instances) z.store handled) (λ q. subst FormsEpochs (ap (λ (p : Packet). p.body) q) z.kind)
      by_handler (inl z) = over (inside_told (frame_of c e x.packet.to) x.packet.from z.body g.view i mid is_closing)
        where
          mid : Among i (takes_inside (frame_of c e x.packet.to) x.packet.from z.body g.view).view.store.instances
          mid = subst (λ (xs : List Instance). Among i xs) (ap (λ (y : SiteView). y.store.instances) z.is ∙ tries_instances c x.packet.to z.body (takes_inside (frame_of c e x.packet.to) x.packet.from z.body g.view).view) handled

          over : TellsClosing (frame_of c e x.packet.to) g.view.store i (takes_inside (frame_of c e x.packet.to) x.packet.from z.body g.view).sent → IsGoing c e css s (arrives c n x (at j)) i made
          over (inl m) = from_old m (λ q. closed_gone (frame_of c e x.packet.to) g.view.store i apart m is_closing (subst (λ (b : Body). Among i (takes_inside (frame_of c e x.packet.to) x.packet.from b g.view).view.store.instances) (sym z.came ∙ ap (λ (p : Packet). p.body) q) mid))
          over (inr tells) = inl (subst (λ (t : ℕ). Under (arrives c n x (at j)).underway (packet (frame_of c e t) css (body.Closed i.inst made))) eq
              (sent_under c lines n e x (at j) z.body g z.came z.forms (packet (frame_of c e x.packet.to) css (body.Closed i.inst made)) (tells made r closes (packet (frame_of c e x.packet.to) css (body.Closed i.inst made)) (to_some_has c e x.packet.to css (body.Closed i.inst made) (sync_site c e.members i.file.group) (told_of i is)))))

  passed_goes : (j : ℕ) → j ≤ k → (x : Numbered) → next_packet (at j) ≡ Some x → IsPassed c n e x (at j) → Go (at j) → Go (arrives c n x (at j))
  passed_goes j le x next p old v here i a is made r closes = over (old v (sym (p.passes.same s member) ∙ here) i a is made r closes)
    where
      told : Under (arrives c n x (at j)).underway (packet (frame_of c e s) css (body.Closed i.inst made)) ⊎ (x.packet ≡ packet (frame_of c e s) css (body.Closed i.inst made)) → IsGoing c e css s (arrives c n x (at j)) i made
      told (inl q) = inl q
      told (inr eq) = absurd (p.not_for css is_css (subst (λ (y : Packet). is_for e css y ≡ true) (sym eq) (goes_for c e s css (body.Closed i.inst made))))

      back : Under (arrives c n x (at j)).underway (packet (frame_of c e css) s (body.ClosedOk i.inst)) ⊎ (x.packet ≡ packet (frame_of c e css) s (body.ClosedOk i.inst)) → IsGoing c e css s (arrives c n x (at j)) i made
      back (inl q) = inr q
      back (inr eq) = absurd (p.not_for s member (subst (λ (y : Packet). is_for e s y ≡ true) (sym eq) (goes_for c e css s (body.ClosedOk i.inst))))

      over : IsGoing c e css s (at j) i made → IsGoing c e css s (arrives c n x (at j)) i made
      over (inl q) = told (still_under c lines n (at j) (arrives c n x (at j)) x p.passes.more (round j le) next p.passes.underway (packet (frame_of c e s) css (body.Closed i.inst made)) q)
      over (inr q) = back (still_under c lines n (at j) (arrives c n x (at j)) x p.passes.more (round j le) next p.passes.underway (packet (frame_of c e css) s (body.ClosedOk i.inst)) q)

  next_go : (j : ℕ) → suc j ≤ k → Go (at j) → Go (at (suc j))
  next_go j le_next old = by_next (next_packet (at j)) refl (one_more c n j (ticks_to c n all_sites start))
    where
      le : j ≤ k
      le = omega (arith, le_next)

      by_next : (o : Option Numbered) → next_packet (at j) ≡ o → at (suc j) ≡ delivers_next c n (at j) (next_packet (at j)) → Go (at (suc j))
      by_next None is eq = subst Go (sym (eq ∙ ap (delivers_next c n (at j)) is)) old
      by_next (Some x) is eq = subst Go (sym now) (over (taken_or_passed c lines n e x (at j) (round j le) is (subst (λ (z : World). IsInRound c lines n z) now (round (suc j) le_next)) (calm.each j le) (subst (λ (z : World). AreTogether z e) now (calm.each (suc j) le_next)) (ap (λ (z : World). z.over) (sym now) ∙ within_after c lines n e k calm (suc j) le_next)))
        where
          now : at (suc j) ≡ arrives c n x (at j)
          now = eq ∙ ap (delivers_next c n (at j)) is

          theirs : Delivery c lines n e x (at j) → x.packet.to ≢ s → Go (arrives c n x (at j))
          theirs g ne v here i a file_is made r closes =
              let was : place_at (at j) s ≡ Some (Running v) = sym ((event_ends c lines n e x (at j) g).comes.others s ne) ∙ here in
              goes_taken j le x g v was i a file_is made r closes (λ q. ne (ap (λ (p : Packet). p.to) q)) (old v was i a file_is made r closes)

          over : Delivery c lines n e x (at j) ⊎ IsPassed c n e x (at j) → Go (arrives c n x (at j))
          over (inr p) = passed_goes j le x is p old
          over (inl g) = at_each x.packet.to s (Go (arrives c n x (at j))) (λ q. mine_goes j le x g q old) (theirs g)

  all_go : (j : ℕ) → j ≤ k → Go (at j)
  all_go zero le = ticked_go
  all_go (suc j) le = next_go j le (all_go j (omega (arith, le)))

  pub none_closes : NoneCloses (place_at (at k)) s file
  none_closes v i here a is closes = over (all_go k (omega arith) v here i a is how.0 how.1 how.2)
    where
      how : (made : Option MadeVersion) × (r : CloseAnswer) × (i.stage ≡ stage.Closing made r)
      how = closing_as i.stage closes

      over : IsGoing c e css s (at k) i how.0 → ⊥
      over (inl q) = nothing_goes c e (at k) s css (body.Closed i.inst how.0) q.letter (calm.each k (omega arith)) calm.reach calm.within calm.ended q.there (record { sender = member; receiver = is_css; is = q.is })
      over (inr q) = nothing_goes c e (at k) css s (body.ClosedOk i.inst) q.letter (calm.each k (omega arith)) calm.reach calm.within calm.ended q.there (record { sender = is_css; receiver = member; is = q.is })
