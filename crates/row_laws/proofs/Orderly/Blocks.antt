-- A block of lines by which sites start, and the round after it.
use Rattle.std.proofs.Common.{◌≡◌, ◌≢◌, ℕ, ◌+◌, ◌⊎◌, Bool, true, false, not, List, [], ◌∷◌, length, Option, Some, None, refl, sym, ◌∙◌, ap, subst, inl, inr, ◌<◌}
use Rattle.locus_ids.specs.declared.sites.Links.{Links}
use Rattle.locus_ids.specs.declared.config.Config.{Config}
use Rattle.locus_ids.specs.Sizes.{sites_max}
use Rattle.schedule_lines.specs.declared.line.Line.TheVariants as line
use Rattle.schedule_lines.specs.declared.line.ScheduleLine.{ScheduleLine}
use Rattle.schedule_lines.specs.declared.line.ScheduleLine.TheVariants.{Passed, Header, Event as EventLine}
use Rattle.wire_messages.specs.declared.packet.Packet.{Packet}
use Rattle.wire_messages.specs.declared.body.Body.{Body}
use Rattle.wire_messages.specs.declared.body.Body.TheVariants as body
use Rattle.trace_book.specs.declared.record.Record.TheVariants as says
use Rattle.std.specs.Option.{is_some}
use Rattle.role_steps.proofs.of_plain_facts.Options.{none_some}
use Rattle.role_steps.specs.Views.{SiteView, DiskWrite, Outcome, Event, Receives, Ticks, Parts, Merges, GivesUp, Shown, boot_in}
use Rattle.role_steps.specs.Epochs.{boots_where, merge_boot, part_boot}
use Rattle.role_steps.specs.declared.rounds.InEpoch.{InEpoch}
use Rattle.the_run.specs.Kept.{IsOwn}
use Rattle.the_run.specs.Steps.{step}
use Rattle.the_run.specs.Worlds.{World, Limit, Place, Running, Stopped, place_at, links_of, happened, puts, arms, passed, stops_with, acts_of, acts, happens, happens_at, first_world}
use Rattle.the_run.specs.Runs.{is_stopped, is_in_no_epoch, unless_void, settles, acts_line, run_from, run_in}
use Rattle.the_run.proofs.Boots.{every_weaker}
use Rattle.the_run.proofs.Events.{acts_keeps, puts_other, puts_same}
use Rattle.the_run.proofs.Runs.{every_run}
use Rattle.run_laws.specs.Epochs.Known.{Places, Good}
use Rattle.run_laws.proofs.Epochs.Boots.{boot_nowhere}
use Rattle.run_laws.proofs.Epochs.Run.{good_kept, run_good}
use Rattle.run_laws.proofs.Walks.FirstWorld.{first_views}
use Rattle.row_laws.specs.Orderly.Agreeing.{Agrees}
use Rattle.row_laws.specs.Orderly.Blocks.{asked_by_merge, asked_inside, asked_at, asked_by_part, StartsBy, IsInBlock, IsBlock, starts_of, StandApart, AreLinesApart, BlocksAgree, StartsNobody, QuietLasts}
use Rattle.row_laws.specs.Orderly.Numbers.{NumbersAscend}
use Rattle.row_laws.specs.Orderly.Quiet.{IsDead, OnPoll, DeadPoll, IsQuiet}
use Rattle.row_laws.specs.Orderly.Rounds.{Unbroken}
use Rattle.row_laws.specs.Orderly.Settling.{Starts, reaches, AreApart, IsLive, PollOk, Settling}
use Rattle.row_laws.specs.Orderly.Turn.{Turn}
use Rattle.row_laws.proofs.Orderly.ApartStarts.{Join, Within, apart_same, settling_same, with_apart, merge_others, part_others, merge_linked, part_linked}
use Rattle.row_laws.proofs.Orderly.Numbers.{ascend_kept, first_ascends}
use Rattle.row_laws.proofs.Orderly.Places.{links_same}
use Rattle.row_laws.proofs.Orderly.Quiet.{Still, act_still}
use Rattle.row_laws.proofs.Orderly.Rounds.{happened_cases, RoundKept, settles_kept}
use Rattle.row_laws.proofs.Orderly.Settles.{round_settles}
use Rattle.row_laws.proofs.Orderly.StartTurn.{merges_unwritten, parts_unwritten, Begun, merge_begun, part_begun, With, start_turn}

-- ---- one line ----

none_limit : (l : Limit) → ◌≡◌ {A = Option Limit} (Some l) None → ⊥
none_limit l e = cc

pub happened_within : (n : ℕ) (ps : _) (told : _) (change : World → World) (w : World) → (happened n ps told change w).over ≡ None → w.over ≡ None
happened_within n ps told change w =
    happened_cases (λ u. u.over ≡ None → w.over ≡ None) n ps told change w (λ l e k. k) (λ l k. absurd (none_limit l k)) (λ k b t e h. e)

turn_of : (c : Config) (n : ℕ) (first w : World) (s : ℕ) (v : SiteView) (e : Event) → place_at w s ≡ Some (Running v) → ((p : Packet) → e ≡ Receives p → ⊥) → (e ≡ GivesUp → ⊥) → (step c s (links_of first s) v e).written ≡ None → (acts n s v (step c s (links_of first s) v e) w).over ≡ None →
    Turn c first w (acts n s v (step c s (links_of first s) v e) w) s v e
turn_of c n first w s v e here comes given unwritten within =
    subst (λ (u : World). u.over ≡ None → Turn c first w u s v e) (ap (λ (d : Option DiskWrite). acts_of n s v o d w) (sym unwritten)) whole within
  where
    o : Outcome SiteView
    o = step c s (links_of first s) v e

    whole : (happened n o.sent o.told (λ now. puts s (Running o.view) now) w).over ≡ None → Turn c first w (happened n o.sent o.told (λ now. puts s (Running o.view) now) w) s v e
    whole = happened_cases (λ u. u.over ≡ None → Turn c first w u s v e) n o.sent o.told (λ now. puts s (Running o.view) now) w
        (λ k f g. absurd (none_limit k (sym f ∙ g)))
        (λ k g. absurd (none_limit k g))
        (λ k b t f g. record {
          here = here;
          now = puts_same s (Running o.view) w;
          others = λ x ne. puts_other s x (Running o.view) w ne;
          circuits = refl;
          under = w.underway;
          count = w.packets + 1;
          underway = refl;
          sent = refl;
          was = λ y a. a;
          stays = λ y a. inl a;
          comes = λ p q. absurd (comes p q);
          given = given;
        })

acts_within : (n s : ℕ) (v : SiteView) (o : Outcome SiteView) (w : World) → o.written ≡ None → (acts n s v o w).over ≡ None → w.over ≡ None
acts_within n s v o w unwritten = subst (λ (u : World). u.over ≡ None → w.over ≡ None) (ap (λ (d : Option DiskWrite). acts_of n s v o d w) (sym unwritten)) (happened_within n o.sent o.told (λ now. puts s (Running o.view) now) w)

-- what stands between two lines of a block
pub record InBlock (first w : World) (R : Starts) : Type 0 where
  pub good : Good w
  pub ascend : NumbersAscend w
  pub settling : Settling first R w
  pub apart : AreApart first R

no_receive_m : (p : Packet) → Merges ≡ Receives p → ⊥
no_receive_m p e = cc

no_give_m : Merges ≡ GivesUp → ⊥
no_give_m e = cc

no_receive_p : (p : Packet) → Parts ≡ Receives p → ⊥
no_receive_p p e = cc

no_give_p : Parts ≡ GivesUp → ⊥
no_give_p e = cc

-- an event by which a site starts
event_in : (c : Config) (n : ℕ) (first w : World) (R : Starts) (s : ℕ) (v : SiteView) (e : Event) (P : Links) → place_at w s ≡ Some (Running v) → IsOwn e → ((p : Packet) → e ≡ Receives p → ⊥) → (e ≡ GivesUp → ⊥) → ((l : Links) → (step c s l v e).written ≡ None) → Begun s (links_of first s) v P (step c s (links_of first s) v e) →
    StandApart first R (λ X L. (X ≡ s) × (L ≡ P)) → reaches first s s ≡ true → boot_in P.boot s ≡ 0 → ((t : ℕ) → boot_in P.boot t ≢ 0 → boot_in P.boot t ≡ boot_in (links_of first s).boot t) → ((t : ℕ) → sites_max < t → boot_in P.boot t ≡ 0) →
    InBlock first w R → (acts n s v (step c s (links_of w s) v e) w).over ≡ None → InBlock first (acts n s v (step c s (links_of w s) v e) w) (With R s P)
event_in c n first w R s v e P here own comes given unwritten begun d itself self linked sized h within =
    subst (λ (l : Links). (acts n s v (step c s l v e) w).over ≡ None → Good (acts n s v (step c s l v e) w) → NumbersAscend (acts n s v (step c s l v e) w) → InBlock first (acts n s v (step c s l v e) w) (With R s P)) (sym links) whole within
    ((good_kept c).steps n s e v w here own h.good) ((ascend_kept c).steps n s e v w here own h.ascend)
  where
    links : links_of w s ≡ links_of first s
    links = links_same first w s h.settling.boots h.settling.circuits

    apart : AreApart first (With R s P)
    apart = with_apart first R s P h.apart d itself self linked sized

    whole : (acts n s v (step c s (links_of first s) v e) w).over ≡ None → Good (acts n s v (step c s (links_of first s) v e) w) → NumbersAscend (acts n s v (step c s (links_of first s) v e) w) → InBlock first (acts n s v (step c s (links_of first s) v e) w) (With R s P)
    whole k g a = record {
      good = g;
      ascend = a;
      settling = start_turn c first w (acts n s v (step c s (links_of first s) v e) w) R s v e P apart (λ L r. d.differ s L s P r (refl, refl) refl) h.settling h.good (turn_of c n first w s v e here comes given (unwritten (links_of first s)) k) begun;
      apart = apart;
    }

-- the place of a site that isn't stopped
running_place : (o : Option Place) → is_stopped o ≡ false → (v : SiteView) × (o ≡ Some (Running v))
running_place None h = absurd (cc)
running_place (Some (Stopped d)) h = absurd (cc)
running_place (Some (Running v)) h = (v, refl)

inside_place : (o : Option Place) → is_in_no_epoch o ≡ false → (v : SiteView) × (o ≡ Some (Running v)) × ((e : InEpoch) × (v.epoch ≡ Some e))
inside_place None h = absurd (cc)
inside_place (Some (Stopped d)) h = absurd (cc)
inside_place (Some (Running v)) h = (v, refl, by_epoch v.epoch refl h)
  where
    by_epoch : (o : Option InEpoch) → v.epoch ≡ o → not (is_some o) ≡ false → (e : InEpoch) × (v.epoch ≡ Some e)
    by_epoch None e h = absurd (cc)
    by_epoch (Some x) e h = (x, e)

-- the line is no more than the event
line_is : (c : Config) (n : ℕ) (w : World) (s : ℕ) (v : SiteView) (e : Event) (b : Bool) → b ≡ false → place_at w s ≡ Some (Running v) → unless_void n b (happens c n s e) w ≡ acts n s v (step c s (links_of w s) v e) w
line_is c n w s v e b off here = ap (λ (x : Bool). unless_void n x (happens c n s e) w) off ∙ ap (λ (o : Option Place). happens_at c n s e o w) here

merge_in : (c : Config) (n : ℕ) (first w : World) (R : Starts) (s : ℕ) → is_stopped (place_at w s) ≡ false → StandApart first R (StartsBy (EventLine (line.Merge s)) w) → reaches first s s ≡ true → InBlock first w R → (acts_line c n (EventLine (line.Merge s)) w).over ≡ None → InBlock first (acts_line c n (EventLine (line.Merge s)) w) (Join R (StartsBy (EventLine (line.Merge s)) w))
merge_in c n first w R s off d itself h within =
    let k : (v : SiteView) × (place_at w s ≡ Some (Running v)) = running_place (place_at w s) off in
    let links : links_of w s ≡ links_of first s = links_same first w s h.settling.boots h.settling.circuits in
    let is : acts_line c n (EventLine (line.Merge s)) w ≡ acts n s k.0 (step c s (links_of w s) k.0 Merges) w = line_is c n w s k.0 Merges (is_stopped (place_at w s)) off k.1 in
    subst (λ (u : World). InBlock first u (Join R (StartsBy (EventLine (line.Merge s)) w))) (sym is)
    (event_in c n first w R s k.0 Merges (asked_by_merge w s) k.1 tt no_receive_m no_give_m (λ l. merges_unwritten c s l k.0)
    (subst (λ (l : Links). Begun s (links_of first s) k.0 (boots_where (merge_boot s l)) (step c s (links_of first s) k.0 Merges)) (sym links) (merge_begun c s (links_of first s) k.0 (h.good.views s k.0 k.1).tables))
    d itself (merge_others s (links_of w s))
    (λ t some. merge_linked (links_of w s) s t some ∙ ap (λ (l : Links). boot_in l.boot t) links)
    (λ t high. boot_nowhere (merge_boot s (links_of w s)) t high)
    h (subst (λ (u : World). u.over ≡ None) is within))

asked_is : (w : World) (s : ℕ) (v : SiteView) (e : InEpoch) → place_at w s ≡ Some (Running v) → v.epoch ≡ Some e → asked_by_part w s ≡ boots_where (part_boot s (links_of w s) e.members)
asked_is w s v e here inside = ap (asked_at w s) here ∙ ap (asked_inside w s) inside

part_in : (c : Config) (n : ℕ) (first w : World) (R : Starts) (s : ℕ) → is_in_no_epoch (place_at w s) ≡ false → StandApart first R (StartsBy (EventLine (line.Part s)) w) → reaches first s s ≡ true → InBlock first w R → (acts_line c n (EventLine (line.Part s)) w).over ≡ None → InBlock first (acts_line c n (EventLine (line.Part s)) w) (Join R (StartsBy (EventLine (line.Part s)) w))
part_in c n first w R s off d itself h within =
    let k : (v : SiteView) × (place_at w s ≡ Some (Running v)) × ((e : InEpoch) × (v.epoch ≡ Some e)) = inside_place (place_at w s) off in
    let e : InEpoch = k.2.0 in
    let asks : asked_by_part w s ≡ boots_where (part_boot s (links_of w s) e.members) = asked_is w s k.0 e k.1 k.2.1 in
    let links : links_of w s ≡ links_of first s = links_same first w s h.settling.boots h.settling.circuits in
    let is : acts_line c n (EventLine (line.Part s)) w ≡ acts n s k.0 (step c s (links_of w s) k.0 Parts) w = line_is c n w s k.0 Parts (is_in_no_epoch (place_at w s)) off k.1 in
    subst (λ (u : World). InBlock first u (Join R (StartsBy (EventLine (line.Part s)) w))) (sym is)
    (event_in c n first w R s k.0 Parts (asked_by_part w s) k.1 tt no_receive_p no_give_p (λ l. parts_unwritten c s l k.0)
    (subst (λ (P : Links). Begun s (links_of first s) k.0 P (step c s (links_of first s) k.0 Parts)) (sym asks) (subst (λ (l : Links). Begun s (links_of first s) k.0 (boots_where (part_boot s l e.members)) (step c s (links_of first s) k.0 Parts)) (sym links) (part_begun c s (links_of first s) k.0 e k.2.1 (h.good.views s k.0 k.1).tables)))
    d itself (ap (λ (P : Links). boot_in P.boot s) asks ∙ part_others s (links_of w s) e.members)
    (λ t some. ap (λ (P : Links). boot_in P.boot t) asks ∙ (part_linked (links_of w s) e.members s t (λ z. some (ap (λ (P : Links). boot_in P.boot t) asks ∙ z)) ∙ ap (λ (l : Links). boot_in l.boot t) links))
    (λ t high. ap (λ (P : Links). boot_in P.boot t) asks ∙ boot_nowhere (part_boot s (links_of w s) e.members) t high)
    h (subst (λ (u : World). u.over ≡ None) is within))

-- ---- the lines ----

line_within : (c : Config) (n : ℕ) (x : ScheduleLine) (w : World) → IsInBlock x w → (acts_line c n x w).over ≡ None → w.over ≡ None
line_within c n Passed w h k = k
line_within c n (EventLine (line.Merge s)) w h k =
    let v : (v : SiteView) × (place_at w s ≡ Some (Running v)) = running_place (place_at w s) h in
    acts_within n s v.0 (step c s (links_of w s) v.0 Merges) w (merges_unwritten c s (links_of w s) v.0) (subst (λ (u : World). u.over ≡ None) (line_is c n w s v.0 Merges (is_stopped (place_at w s)) h v.1) k)
line_within c n (EventLine (line.Part s)) w h k =
    let v : (v : SiteView) × (place_at w s ≡ Some (Running v)) × ((e : InEpoch) × (v.epoch ≡ Some e)) = inside_place (place_at w s) h in
    acts_within n s v.0 (step c s (links_of w s) v.0 Parts) w (parts_unwritten c s (links_of w s) v.0) (subst (λ (u : World). u.over ≡ None) (line_is c n w s v.0 Parts (is_in_no_epoch (place_at w s)) h v.1) k)
line_within c n _ w h k = absurd h

lines_within : (c : Config) (n : ℕ) (xs : List ScheduleLine) (w : World) → IsBlock c n xs w → (run_from c n xs w).over ≡ None → w.over ≡ None
lines_within c n [] w h k = k
lines_within c n (x ∷ xs) w h k = line_within c n x w h.0 (lines_within c (n + 1) xs (acts_line c n x w) h.1 k)

in_same : (first w : World) (R Q : Starts) → Within R Q → Within Q R → InBlock first w R → InBlock first w Q
in_same first w R Q f g h = record { good = h.good; ascend = h.ascend; settling = settling_same first w R Q f g h.settling; apart = apart_same first R Q g h.apart }

none_more : (first w : World) (R Q : Starts) → ((X : ℕ) (P : Links) → Q X P → ⊥) → InBlock first w R → InBlock first w (Join R Q)
none_more first w R Q none h = in_same first w R (Join R Q) (λ X P r. inl r) back h
  where
    back : (X : ℕ) (P : Links) → Join R Q X P → R X P
    back X P (inl r) = r
    back X P (inr q) = absurd (none X P q)

line_in : (c : Config) (n : ℕ) (first w : World) (R : Starts) (x : ScheduleLine) → IsInBlock x w → StandApart first R (StartsBy x w) → ((X : ℕ) (P : Links) → StartsBy x w X P → reaches first X X ≡ true) → InBlock first w R → (acts_line c n x w).over ≡ None → InBlock first (acts_line c n x w) (Join R (StartsBy x w))
line_in c n first w R Passed i d itself h within = none_more first w R (StartsBy Passed w) (λ X P k. k) h
line_in c n first w R (EventLine (line.Merge s)) i d itself h within = merge_in c n first w R s i d (itself s (asked_by_merge w s) (refl, refl)) h within
line_in c n first w R (EventLine (line.Part s)) i d itself h within = part_in c n first w R s i d (itself s (asked_by_part w s) (refl, refl)) h within
line_in c n first w R _ i d itself h within = absurd i

stand_left : (first : World) (R A B : Starts) → StandApart first R (Join A B) → StandApart first R A
stand_left first R A B d = record { itself = d.itself; differ = λ X P Y L r q. d.differ X P Y L r (inl q); apart = λ X P Y L t r q. d.apart X P Y L t r (inl q) }

stand_both : (first : World) (R A B : Starts) → StandApart first R (Join A B) → StandApart first A B → StandApart first (Join R A) B
stand_both first R A B d e = record { itself = λ X P r. by_itself X P r; differ = λ X P Y L r q. by_differ X P Y L r q; apart = λ X P Y L t r q. by_apart X P Y L t r q }
  where
    by_itself : (X : ℕ) (P : Links) → Join R A X P → reaches first X X ≡ true
    by_itself X P (inl r) = d.itself X P r
    by_itself X P (inr a) = e.itself X P a

    by_differ : (X : ℕ) (P : Links) (Y : ℕ) (L : Links) → Join R A X P → B Y L → X ≡ Y → ⊥
    by_differ X P Y L (inl r) q = d.differ X P Y L r (inr q)
    by_differ X P Y L (inr a) q = e.differ X P Y L a q

    by_apart : (X : ℕ) (P : Links) (Y : ℕ) (L : Links) (t : ℕ) → Join R A X P → B Y L → reaches first X t ≡ true → reaches first Y t ≡ true → ⊥
    by_apart X P Y L t (inl r) q = d.apart X P Y L t r (inr q)
    by_apart X P Y L t (inr a) q = e.apart X P Y L t a q

pub lines_in : (c : Config) (n : ℕ) (first w : World) (R : Starts) (xs : List ScheduleLine) → StandApart first R (starts_of c n xs w) → AreLinesApart first c n xs w → IsBlock c n xs w → InBlock first w R → (run_from c n xs w).over ≡ None → InBlock first (run_from c n xs w) (Join R (starts_of c n xs w))
lines_in c n first w R [] d a b h within = none_more first w R (starts_of c n [] w) (λ X P k. k) h
lines_in c n first w R (x ∷ xs) d a b h within =
    in_same first (run_from c (n + 1) xs (acts_line c n x w)) (Join (Join R A) B) (Join R (Join A B)) there back
    (lines_in c (n + 1) first (acts_line c n x w) (Join R A) xs (stand_both first R A B d a.0) a.1 b.1
    (line_in c n first w R x b.0 (stand_left first R A B d) a.0.itself h (lines_within c (n + 1) xs (acts_line c n x w) b.1 within)) within)
  where
    A : Starts
    A = StartsBy x w

    B : Starts
    B = starts_of c (n + 1) xs (acts_line c n x w)

    there : (X : ℕ) (P : Links) → Join (Join R A) B X P → Join R (Join A B) X P
    there X P (inl (inl r)) = inl r
    there X P (inl (inr k)) = inr (inl k)
    there X P (inr k) = inr (inr k)

    back : (X : ℕ) (P : Links) → Join R (Join A B) X P → Join (Join R A) B X P
    back X P (inl r) = inl (inl r)
    back X P (inr (inl k)) = inl (inr k)
    back X P (inr (inr k)) = inr k

-- ---- before the block, and after it ----

abbrev pub NoStarts : Starts
NoStarts X P = ⊥

dead_ok : (first : World) (R : Starts) (at : Places) (p : Packet) (x : Body) → OnPoll (IsDead at p) x → OnPoll (IsDead at p ⊎ IsLive first R p) x
dead_ok first R at p body.Poll h = inl h
dead_ok first R at p _ h = tt

pub before_block : (first : World) → Good first → NumbersAscend first → IsQuiet first → InBlock first first NoStarts
before_block first good ascend q = record {
  good = good;
  ascend = ascend;
  settling = record {
    boots = λ t. refl;
    circuits = refl;
    sent = every_weaker (DeadPoll (place_at first)) (PollOk first NoStarts (place_at first)) first.sent (λ x k. dead_ok first NoStarts (place_at first) x.packet x.packet.body k) q.sent;
    underway = every_weaker (DeadPoll (place_at first)) (PollOk first NoStarts (place_at first)) first.underway (λ x k. dead_ok first NoStarts (place_at first) x.packet x.packet.body k) q.underway;
    rounds = λ s v r here round. absurd (none_some r (sym (q.rounds s v here) ∙ round));
    rows = λ s P k. absurd k;
  };
  apart = record { linked = λ s P t k. absurd k; sized = λ s P t k. absurd k; itself = λ s P k. absurd k; others = λ s P t L k. absurd k; apart = λ s P t L x k. absurd k; one = λ s P L k. absurd k };
}

acts_over : (n s : ℕ) (v : SiteView) (o : Outcome SiteView) (w : World) → (acts n s v o w).over ≡ None → w.over ≡ None
acts_over n s v o w =
    acts_keeps (λ (u : World). u.over ≡ None → w.over ≡ None) n s v o w
    (λ ps told place. happened_within n ps told (λ now. puts s place now) w)
    (λ ps told place a. happened_within n ps told (λ now. puts s place (arms a now)) w)
    (λ ps told d. happened_within n ps told (stops_with s d) w)

pub round_within : (c : Config) (n : ℕ) (first : World) → RoundKept c n (λ (u : World). u.over ≡ None → first.over ≡ None)
round_within c n first = record {
  ticks = λ s v w here p k. p (acts_over n s v (step c s (links_of w s) v Ticks) w k);
  receives = λ x v w here a undropped p k. p (acts_over n x.packet.to v (step c x.packet.to (links_of (passed x.number w) x.packet.to) v (Receives x.packet)) (passed x.number w) k);
  drops = λ x w a dropped p k. p k;
  budgets = λ w p k. p (happened_within n [] (Shown says.Budget ∷ []) (λ now. now) w k);
}

-- a block and its round, from any world that is quiet
pub block_agrees : (c : Config) (n m most : ℕ) (first : World) (block : List ScheduleLine) → Good first → NumbersAscend first → IsQuiet first → IsBlock c n block first → AreLinesApart first c n block first → Unbroken m (settles c m most (run_from c n block first)) →
    ((X : ℕ) (P : Links) → starts_of c n block first X P → Agrees first (settles c m most (run_from c n block first)) X P) × IsQuiet (settles c m most (run_from c n block first))
block_agrees c n m most first block good ascend quiet is apart whole =
    let w : World = run_from c n block first in
    let within : w.over ≡ None = (settles_kept c m (λ (u : World). u.over ≡ None → w.over ≡ None) (round_within c m w) most w (λ k. k)).0 whole.within in
    let h : InBlock first w (Join NoStarts (starts_of c n block first)) = lines_in c n first first NoStarts block (record { itself = λ X P k. absurd k; differ = λ X P Y L k. absurd k; apart = λ X P Y L t k. absurd k }) apart is (before_block first good ascend quiet) within in
    let r : ((X : ℕ) (P : Links) → Join NoStarts (starts_of c n block first) X P → Agrees first (settles c m most w) X P) × IsQuiet (settles c m most w) =
    round_settles c m most first w (Join NoStarts (starts_of c n block first)) h.apart (record { good = h.good; ascend = h.ascend; settling = λ k. h.settling }) whole in
    (λ X P s. r.0 X P (inr s), r.1)

run_ascends : (c : Config) (lines : List ScheduleLine) → NumbersAscend (run_in c lines)
run_ascends c lines = every_run c NumbersAscend (ascend_kept c) (first_ascends c) lines

pub blocks_agree : (c : Config) → BlocksAgree c
blocks_agree c before block most quiet is apart whole = block_agrees c (1 + length before) ((1 + length before) + length block) most (run_in c before) block (run_good c before) (run_ascends c before) quiet is apart whole

-- ---- quiet lasts ----

pub first_quiet : (c : Config) → IsQuiet (first_world c)
first_quiet c = record { rounds = first_views c (λ s v. v.round ≡ None) (λ s own. refl); sent = tt; underway = tt }

line_still : (c : Config) (n : ℕ) (x : ScheduleLine) (w : World) → StartsNobody x w → Still w → Still (acts_line c n x w)
line_still c n Passed w none h = h
line_still c n (Header y) w none h = h
line_still c n (EventLine y) w none h = act_still c n y w none h

pub quiet_lasts : (c : Config) → QuietLasts c
quiet_lasts c lines x quiet none = (line_still c (1 + length lines) x (run_in c lines) none (record { good = run_good c lines; ascend = run_ascends c lines; quiet = quiet })).quiet
