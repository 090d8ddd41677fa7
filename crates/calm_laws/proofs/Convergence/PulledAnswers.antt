-- The holder of the only kept version of a file that nobody has open answers what a member asks that pulls it.
use Rattle.std.proofs.Common.{Bool, List, None, Option, Some, [], ap, arith, cond, false, inl, inr, length, length-drop, length-take, min, nat_lt, refl, subst, sym, true, drop, ℕ, ◌&&◌, ◌*◌, ◌-◌, ◌<◌, ◌==◌, ◌∙◌, ◌∷◌, ◌≡◌, ◌≤◌}
use Rattle.std.proofs.lemmas.Bool.Decides.{nat_tests}
use Rattle.std.specs.Option.{is_some}
use Rattle.calm_laws.proofs.Events.{Under}
use Rattle.calm_laws.specs.Carrying.{IsMember, frame_of}
use Rattle.calm_laws.specs.Rounds.{Delivery}
use Rattle.commit_graph.specs.Versions.{same_stamp}
use Rattle.calm_laws.proofs.Convergence.DueSteps.{sent_under}
use Rattle.calm_laws.proofs.Convergence.Midst.{pull_in}
use Rattle.calm_laws.proofs.Convergence.PulledCarried.{Asks, OnWay, stamp_itself}
use Rattle.calm_laws.proofs.Convergence.PulledHeld.{Settled, holder_copy}
use Rattle.file_content.specs.Pages.{page_of, pages_of}
use Rattle.locus_ids.specs.Sizes.{page_bytes}
use Rattle.locus_ids.specs.declared.config.Config.{Config}
use Rattle.locus_ids.specs.declared.ids.FileId.{FileId}
use Rattle.locus_ids.specs.declared.ids.Stamp.{Stamp}
use Rattle.store_laws.proofs.PulledPages.{below_at}
use Rattle.role_steps.proofs.of_plain_facts.Tests.{true_false}
use Rattle.role_steps.specs.Pulling.{bytes_in, is_complete, next_asked, next_page, pages_got, wanted_pages}
use Rattle.role_steps.specs.Storage.{copy_of, delta_of, has_page, pages_since, pulled_page, steps_of, wanted_delta}
use Rattle.role_steps.specs.Views.{Frame, SiteView, packet}
use Rattle.role_steps.specs.declared.copies.FileCopy.{FileCopy}
use Rattle.role_steps.specs.declared.pulls.Pull.{Pull}
use Rattle.role_steps.specs.declared.rounds.InEpoch.{InEpoch}
use Rattle.schedule_lines.specs.declared.line.ScheduleLine.{ScheduleLine}
use Rattle.the_run.specs.Kept.{Among}
use Rattle.the_run.specs.Runs.{arrives}
use Rattle.the_run.specs.Steps.{takes_inside}
use Rattle.the_run.specs.Worlds.{Numbered, Running, World, place_at}
use Rattle.tree_laws.specs.Instances.{HasAtLeast}
use Rattle.tree_laws.specs.Printed.{entries}
use Rattle.tree_laws.specs.Stores.{PullFact, copy_for}
use Rattle.tree_model.specs.Files.{HeldVersion, version_of}
use Rattle.wire_messages.specs.declared.body.Body.{Body}
use Rattle.wire_messages.specs.declared.body.Body.TheVariants as body
use Rattle.wire_messages.specs.declared.packet.Packet.{Packet}

page_length : (content : List ℕ) (page : ℕ) → length (page_of content page) ≡ min page_bytes (length content - page_bytes * page)
page_length content page = length-take page_bytes (drop (page_bytes * page) content) ∙ ap (min page_bytes) (length-drop (page_bytes * page) content)

-- where pages are known and some lack, the next one is among them
more_wanted : (got all : ℕ) (known : Bool) → known ≡ true → (known && (got == all)) ≡ false → got ≤ all → got < all
more_wanted got all true e h le = grind (arith, nat_tests)
more_wanted got all false e h le = absurd (true_false (sym e))

module _ (c : Config) (lines : List ScheduleLine) (n : ℕ) (e : InEpoch) (x : Numbered) (w : World) (d : Delivery c lines n e x w) (file : FileId) (s : ℕ) (y : SiteView) (p : Pull) (k : Settled c e w file p.stamp) (m : IsMember e s) (here : place_at w s ≡ Some (Running y)) (a : Among p y.pulls) (is : p.file ≡ file) (asks : Asks c e s p x.packet) where
  abbrev to : ℕ
  to = x.packet.to

  abbrev f : Frame
  f = frame_of c e to

  fact : PullFact c w.trace e.id s p
  fact = pull_in c e w k.mid s y m here p a

  from_is : x.packet.from ≡ s
  from_is = ap (λ (q : Packet). q.from) asks.is

  holds : HasAtLeast c w.trace e.id to file p.stamp
  holds = subst (λ (h : ℕ). HasAtLeast c w.trace e.id h file p.stamp) (sym (ap (λ (q : Packet). q.to) asks.is)) (subst (λ (g : FileId). HasAtLeast c w.trace e.id p.holder g p.stamp) is fact.holds)

  abbrev copy : FileCopy
  copy = copy_for file (version_of c (entries w.trace) file p.stamp)

  found : copy_of d.view.store file ≡ Some copy
  found = holder_copy c e w file p.stamp k to d.view d.member d.here holds

  version : fact.version ≡ version_of c (entries w.trace) file p.stamp
  version = fact.is_version.same ∙ (ap (λ (g : FileId). version_of c (entries w.trace) g fact.version.stamp) is ∙ ap (version_of c (entries w.trace) file) fact.stamp_is)

  size : length copy.content ≡ p.size
  size = ap (λ (z : HeldVersion). length z.content) (sym version) ∙ fact.size_is

  -- a page
  page_answered : is_some p.wanted ≡ true → is_complete p ≡ false → x.packet.body ≡ body.Pull p.file p.stamp (next_page p) → OnWay c e (arrives c n x w) s p
  page_answered told unfinished was = record { letter = u.letter; there = u.there; carries = inr (record { from = to; member = d.member; answer = answer; answers = (sym is, refl, refl, told, page_length copy.content (next_page p) ∙ ap (λ (z : ℕ). bytes_in z (next_page p)) size); is = u.is }) }
    where
      is_body : x.packet.body ≡ body.Pull file p.stamp (next_page p)
      is_body = was ∙ ap (λ (g : FileId). body.Pull g p.stamp (next_page p)) is

      answer : Body
      answer = body.Page file p.stamp (next_page p) (page_of copy.content (next_page p))

      inside : next_page p < pages_of (length fact.version.content)
      inside = below_at (pages_of (length fact.version.content)) (wanted_pages p) fact.inside (pages_got p) (more_wanted (pages_got p) (length (wanted_pages p)) (is_some p.wanted) told unfinished fact.few)

      less : (i j : ℕ) → i < j → nat_lt i j ≡ true
      less i j h = grind (arith, nat_tests)

      has : has_page p.stamp (next_page p) copy ≡ true
      has = both (same_stamp copy.stamp p.stamp) (nat_lt (next_page p) (pages_of (length copy.content))) (stamp_itself p.stamp) (ap (λ (z : HeldVersion). nat_lt (next_page p) (pages_of (length z.content))) (sym version) ∙ less (next_page p) (pages_of (length fact.version.content)) inside)
        where
          both : (i j : Bool) → i ≡ true → j ≡ true → (i && j) ≡ true
          both true true q r = refl
          both true false q r = absurd (true_false (sym r))
          both false j q r = absurd (true_false (sym q))

      sent : Among (packet f s answer) (takes_inside f x.packet.from (body.Pull file p.stamp (next_page p)) d.view).sent
      sent = subst (λ (o : Option FileCopy). Among (packet f s answer) (pulled_page f x.packet.from file p.stamp (next_page p) o)) (sym found) (by_test (has_page p.stamp (next_page p) copy) has)
        where
          by_test : (b : Bool) → b ≡ true → Among (packet f s answer) (cond b (packet f x.packet.from answer ∷ []) [])
          by_test true q = inl (ap (λ (h : ℕ). packet f h answer) (sym from_is))
          by_test false q = absurd (true_false (sym q))

      u : Under (arrives c n x w).underway (packet f s answer)
      u = sent_under c lines n e x w (body.Pull file p.stamp (next_page p)) d is_body tt (packet f s answer) sent

  -- which pages
  delta_answered : (own : Stamp) → p.wanted ≡ None → x.packet.body ≡ body.Want p.file p.stamp own → OnWay c e (arrives c n x w) s p
  delta_answered own untold was = record { letter = u.letter; there = u.there; carries = inr (record { from = to; member = d.member; answer = answer; answers = (sym is, refl, untold, (since, ap (λ (z : ℕ). delta_of (pages_of z) since) size)); is = u.is }) }
    where
      is_body : x.packet.body ≡ body.Want file p.stamp own
      is_body = was ∙ ap (λ (g : FileId). body.Want g p.stamp own) is

      since : Option (List ℕ)
      since = pages_since own p.stamp (steps_of file d.view.store.steps)

      answer : Body
      answer = body.Delta file p.stamp (delta_of (pages_of (length copy.content)) since)

      sent : Among (packet f s answer) (takes_inside f x.packet.from (body.Want file p.stamp own) d.view).sent
      sent = subst (λ (o : Option FileCopy). Among (packet f s answer) (wanted_delta f x.packet.from file p.stamp own d.view.store o)) (sym found) (by_test (same_stamp copy.stamp p.stamp) (stamp_itself p.stamp))
        where
          by_test : (b : Bool) → b ≡ true → Among (packet f s answer) (cond b (packet f x.packet.from answer ∷ []) [])
          by_test true q = inl (ap (λ (h : ℕ). packet f h answer) (sym from_is))
          by_test false q = absurd (true_false (sym q))

      u : Under (arrives c n x w).underway (packet f s answer)
      u = sent_under c lines n e x w (body.Want file p.stamp own) d is_body tt (packet f s answer) sent

  pub answered : is_complete p ≡ false → (p.base ≡ None → is_some p.wanted ≡ true) → OnWay c e (arrives c n x w) s p
  answered unfinished known = by p.base p.wanted refl refl
    where
      asked : (b : Option Stamp) (o : Option (List ℕ)) → p.base ≡ b → p.wanted ≡ o → x.packet.body ≡ next_asked p b o
      asked b o is_base is_wanted = ap (λ (q : Packet). q.body) asks.is ∙ (λ i. next_asked p (is_base i) (is_wanted i))

      by : (b : Option Stamp) (o : Option (List ℕ)) → p.base ≡ b → p.wanted ≡ o → OnWay c e (arrives c n x w) s p
      by (Some own) None eb eo = delta_answered own eo (asked (Some own) None eb eo)
      by None None eb eo = absurd (true_false (sym (known eb) ∙ ap is_some eo))
      by (Some own) (Some l) eb eo = page_answered (ap is_some eo) unfinished (asked (Some own) (Some l) eb eo)
      by None (Some l) eb eo = page_answered (ap is_some eo) unfinished (asked None (Some l) eb eo)
