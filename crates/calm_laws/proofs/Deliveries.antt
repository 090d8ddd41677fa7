-- Deliveries of a calm round, one after another: where each kind of packet hands on what it carries, all stays carried.
use Rattle.std.proofs.Common.{◌≡◌, ℕ, zero, suc, ◌==◌, ◌⊎◌, Bool, true, false, not, ◌&&◌, ◌||◌, List, Some, None, refl, sym, ◌∙◌, ap, subst, inl, inr, arith}
use Rattle.std.proofs.lemmas.Bool.Decides.{nat_tests}
use Rattle.role_steps.proofs.of_plain_facts.Numbers.{equal_self}
use Rattle.role_steps.proofs.of_plain_facts.Tests.{true_false}
use Rattle.locus_ids.specs.declared.config.Config.{Config}
use Rattle.locus_ids.specs.declared.ids.EpochId.{EpochId}
use Rattle.trace_book.specs.Same.{same_epoch}
use Rattle.schedule_lines.specs.declared.line.ScheduleLine.{ScheduleLine}
use Rattle.wire_messages.specs.declared.body.Body.{Body}
use Rattle.wire_messages.specs.declared.body.Body.TheVariants as body
use Rattle.wire_messages.specs.declared.packet.Packet.{Packet}
use Rattle.role_steps.specs.Views.{SiteView, Outcome, Receives, boot_in, packet, sync_site}
use Rattle.role_steps.specs.declared.rounds.InEpoch.{InEpoch}
use Rattle.role_steps.specs.declared.users.WaitingCall.{WaitingCall}
use Rattle.the_run.specs.Kept.{Among}
use Rattle.the_run.specs.Runs.{arrives, next_packet}
use Rattle.the_run.specs.Steps.{is_forming, is_framed, is_dropped, step}
use Rattle.the_run.specs.Worlds.{World, Running, Numbered, place_at, links_of, passed, acts}
use Rattle.run_laws.specs.Epochs.Known.{Places}
use Rattle.row_laws.specs.Orderly.Calm.{IsInside, AreTogether}
use Rattle.row_laws.specs.Orderly.Numbers.{NumbersAscend}
use Rattle.row_laws.proofs.Orderly.Numbers.{ascend_kept, first_ascends}
use Rattle.row_laws.proofs.Orderly.Places.{view_eq}
use Rattle.row_laws.proofs.Orderly.Rounds.{next_among}
use Rattle.calm_laws.specs.Carrying.{IsMember, frame_of, Goes, IsHeld, IsUnderWay, IsCarried, HasReported, Reports, AllCarried, IsAllCarried}
use Rattle.calm_laws.specs.Rounds.{IsInRound, Delivery, CalmLeft, IsReport, IsOpen, IsOpenSs, IsOpened, IsOpenDone, IsOp, IsOpDone, IsClose, IsClosed, IsClosedOk, IsCloseDone, IsLook, IsLookSs, IsLookDone, IsOther}
use Rattle.calm_laws.proofs.Ending.{Way, carrier_goes}
use Rattle.calm_laws.proofs.Events.{Moved, acts_moved, arrives_cases, others_stay}
use Rattle.calm_laws.proofs.Keeping.{AllKeep, roles_itself, carries_kept, held_kept, reported_kept}
use Rattle.calm_laws.proofs.CloseAgreed.{close_agreed_row}
use Rattle.calm_laws.proofs.CloseAnswer.{close_answer_row}
use Rattle.calm_laws.proofs.LookAnswer.{look_answer_row}
use Rattle.calm_laws.proofs.Lawful.{operations_done}
use Rattle.calm_laws.proofs.LookAtHolder.{look_at_holder}
use Rattle.calm_laws.proofs.LookRequests.{look_row}
use Rattle.calm_laws.proofs.Others.{other_row}
use Rattle.calm_laws.proofs.OpAnswer.{op_answer_row}
use Rattle.calm_laws.proofs.Operation.{operation_row}
use Rattle.calm_laws.proofs.OpenAnswer.{open_answer_row}
use Rattle.calm_laws.proofs.Members.{sync_is}
use Rattle.calm_laws.proofs.CloseRequest.{close_request_row}
use Rattle.calm_laws.proofs.Closed.{closed_row}
use Rattle.calm_laws.proofs.OpenAtStorage.{open_at_storage_row}
use Rattle.calm_laws.proofs.Opened.{opened_row}
use Rattle.calm_laws.proofs.Packed.{all_go}
use Rattle.calm_laws.proofs.Rounds.{in_round}
use Rattle.calm_laws.proofs.SentFacts.{granted}

-- ---- a packet that nobody of the epoch takes ----

-- no member has changed, and what came was no packet between members
untouched : (c : Config) (e : InEpoch) (p : Packet) (at now : Places) (under after : List Numbered) → ((s : ℕ) → IsMember e s → now s ≡ at s) → ((y : Numbered) → Among y under → Among y after ⊎ (y.packet ≡ p)) → ((from to : ℕ) (b : Body) → Goes c e from to b p → ⊥) → AllCarried c e at under → AllCarried c e now after
untouched c e p at now under after same stay none old = record {
  calls = λ s v x m here a. call s x (old.calls s v x m (sym (same s m) ∙ here) a);
  reports = λ group css s sync m packed. report group css s sync (old.reports group css s sync m packed);
}
  where
    keep : AllKeep e at now
    keep s v m here = record { view = v; here = same s m ∙ here; keeps = roles_itself v }

    call : (s : ℕ) (x : WaitingCall) → IsUnderWay c e at under s x ⊎ IsHeld c e at s x x.asking → IsCarried c e now after s x
    call s x (inr k) = inr (held_kept c e at now s x x.asking keep k)
    call s x (inl k) = over (stay k.letter k.there)
      where
        over : Among k.letter after ⊎ (k.letter.packet ≡ p) → IsCarried c e now after s x
        over (inl there) = inl (record { letter = k.letter; there = there; carries = carries_kept c e at now s x x.asking k.letter.packet keep k.carries })
        over (inr is) = (let g : Way c e k.letter.packet = carrier_goes c e at s x x.asking k.letter.packet k.carries in absurd (none g.from g.to g.body (subst (λ (q : Packet). Goes c e g.from g.to g.body q) is g.goes)))

    report : (group css s : ℕ) → sync_site c e.members group ≡ Some css → HasReported at css group s ⊎ Reports c e under css group s → HasReported now css group s ⊎ Reports c e after css group s
    report group css s sync (inl k) = inl (reported_kept e at now css group s keep (sync_is c e group css sync).1 k)
    report group css s sync (inr k) = over (stay k.letter k.there)
      where
        over : Among k.letter after ⊎ (k.letter.packet ≡ p) → HasReported now css group s ⊎ Reports c e after css group s
        over (inl there) = inr (record { letter = k.letter; there = there; copies = k.copies; goes = k.goes })
        over (inr is) = absurd (none s css (body.Report group k.copies) (subst (λ (q : Packet). Goes c e s css (body.Report group k.copies) q) is k.goes))

-- ---- a packet between members is taken ----

pub epoch_same : (a : EpochId) → same_epoch a a ≡ true
epoch_same a = grind (arith, nat_tests)

kept_through : (a b f : Bool) → a ≡ true → b ≡ true → not (a && (f || b)) ≡ false
kept_through true true true p q = refl
kept_through true true false p q = refl
kept_through true false f p q = absurd (true_false (sym q))
kept_through false b f p q = absurd (true_false (sym p))

pub member_takes : (c : Config) (e : InEpoch) (from to : ℕ) (b : Body) (v : SiteView) → v.epoch ≡ Some e → v.boot ≡ boot_in e.members.boot to → is_dropped (packet (frame_of c e from) to b) v ≡ false
member_takes c e from to b v inside boot = kept_through (boot_in e.members.boot to == v.boot) (is_framed (packet (frame_of c e from) to b) v.epoch) (is_forming (packet (frame_of c e from) to b))
    (ap (λ (n : ℕ). boot_in e.members.boot to == n) boot ∙ equal_self (boot_in e.members.boot to))
    (ap (is_framed (packet (frame_of c e from) to b)) inside ∙ both (same_epoch e.id e.id) (boot_in e.members.boot from == boot_in e.members.boot from) (epoch_same e.id) (equal_self (boot_in e.members.boot from)))
  where
    both : (x y : Bool) → x ≡ true → y ≡ true → (x && y) ≡ true
    both x y p q = ap (λ (z : Bool). z && y) p ∙ q

-- ---- one delivery ----

ascends_in : (c : Config) (lines : List ScheduleLine) (n : ℕ) (w : World) → IsInRound c lines n w → NumbersAscend w
ascends_in c lines n w h = in_round c NumbersAscend (ascend_kept c) (first_ascends c) lines n w h

-- a packet that comes to no member, or that its member drops
passes_by : (c : Config) (lines : List ScheduleLine) (n : ℕ) (e : InEpoch) (x : Numbered) (w : World) → IsInRound c lines n w → Among x w.underway → ((from to : ℕ) (b : Body) → Goes c e from to b x.packet → ⊥) → (IsMember e x.packet.to → (v : SiteView) → place_at w x.packet.to ≡ Some (Running v) → is_dropped x.packet v ≡ true) →
    (arrives c n x w).over ≡ None → IsAllCarried c e w → IsAllCarried c e (arrives c n x w)
passes_by c lines n e x w round there none drops within old = arrives_cases (λ u. u.over ≡ None → IsAllCarried c e u) c n x w takes gone within
  where
    stay : (y : Numbered) → Among y w.underway → Among y (passed x.number w).underway ⊎ (y.packet ≡ x.packet)
    stay = others_stay x w (ascends_in c lines n w round) there

    gone : ((v : SiteView) → place_at w x.packet.to ≡ Some (Running v) → is_dropped x.packet v ≡ true) → (passed x.number w).over ≡ None → IsAllCarried c e (passed x.number w)
    gone d k = untouched c e x.packet (place_at w) (place_at w) w.underway (passed x.number w).underway (λ s m. refl) stay none old

    takes : (v : SiteView) → place_at w x.packet.to ≡ Some (Running v) → is_dropped x.packet v ≡ false → (acts n x.packet.to v (step c x.packet.to (links_of (passed x.number w) x.packet.to) v (Receives x.packet)) (passed x.number w)).over ≡ None →
        IsAllCarried c e (acts n x.packet.to v (step c x.packet.to (links_of (passed x.number w) x.packet.to) v (Receives x.packet)) (passed x.number w))
    takes v here taken k =
        let o : Outcome SiteView = step c x.packet.to (links_of (passed x.number w) x.packet.to) v (Receives x.packet) in
        let u : World = acts n x.packet.to v o (passed x.number w) in
        let moved : Moved n x.packet.to o (passed x.number w) u = acts_moved n x.packet.to v o (passed x.number w) k in
        untouched c e x.packet (place_at w) (place_at u) w.underway u.underway
        (λ s m. moved.others s (λ eq. true_false (sym (drops (λ z. m (ap (boot_in e.members.boot) (sym eq) ∙ z)) v here) ∙ taken)))
        (λ y a. later u moved.stays y (stay y a)) none old
      where
        later : (u : World) → ((y : Numbered) → Among y (passed x.number w).underway → Among y u.underway) → (y : Numbered) → Among y (passed x.number w).underway ⊎ (y.packet ≡ x.packet) → Among y u.underway ⊎ (y.packet ≡ x.packet)
        later u f y (inl a) = inl (f y a)
        later u f y (inr is) = inr is

by_kind : (c : Config) → CalmLeft c → (lines : List ScheduleLine) (n : ℕ) (e : InEpoch) (x : Numbered) (w : World) → Delivery c lines n e x w → IsAllCarried c e w → IsAllCarried c e (arrives c n x w)
by_kind c left lines n e x w d old = over x.packet.body refl
  where
    over : (b : Body) → x.packet.body ≡ b → IsAllCarried c e (arrives c n x w)
    over (body.Report group copies) is = left.report lines n e x w d (subst IsReport (sym is) tt) old
    over (body.Open serial call process request file how) is = left.open_request lines n e x w d (subst IsOpen (sym is) tt) old
    over (body.OpenSs inst file mode set kind base vector parents) is = open_at_storage_row c (all_go c) lines n e x w d (subst IsOpenSs (sym is) tt) old
    over (body.Opened inst answer) is = opened_row c (all_go c) lines n e x w d (subst IsOpened (sym is) tt) old
    over (body.OpenDone serial answer) is = open_answer_row c (all_go c) lines n e x w d (subst IsOpenDone (sym is) tt) old
    over (body.Op serial k o seen) is = operation_row c (all_go c) (λ lines n e w round together. operations_done c lines n e w round (left.operations lines n e w round together)) lines n e x w d (subst IsOp (sym is) tt) old
    over (body.ReadHeld serial k at len) is = operation_row c (all_go c) (λ lines n e w round together. operations_done c lines n e w round (left.operations lines n e w round together)) lines n e x w d (subst IsOp (sym is) tt) old
    over (body.AsHeld serial k len) is = op_answer_row c (all_go c) lines n e x w d (subst IsOpDone (sym is) tt) old
    over (body.OpDone serial k result) is = op_answer_row c (all_go c) lines n e x w d (subst IsOpDone (sym is) tt) old
    over (body.Close serial) is = close_request_row c (all_go c) lines n e x w d (subst IsClose (sym is) tt) old
    over (body.Closed inst made) is = closed_row c (all_go c) (granted c) lines n e x w d (subst IsClosed (sym is) tt) old
    over (body.ClosedOk inst) is = close_agreed_row c (all_go c) lines n e x w d (subst IsClosedOk (sym is) tt) old
    over (body.CloseDone serial answer) is = close_answer_row c (all_go c) lines n e x w d (subst IsCloseDone (sym is) tt) old
    over (body.Look call process request take file what) is = look_row c (all_go c) left.looks lines n e x w d (subst IsLook (sym is) tt) old
    over (body.LookSs us call process request take file what stamp) is = look_at_holder c (all_go c) lines n e x w d (subst IsLookSs (sym is) tt) old
    over (body.LookDone call request take answer) is = look_answer_row c (all_go c) lines n e x w d (subst IsLookDone (sym is) tt) old
    over _ is = other_row c (all_go c) lines n e x w d (subst IsOther (sym is) tt) old

pub one_delivery : (c : Config) → CalmLeft c → (lines : List ScheduleLine) (n : ℕ) (e : InEpoch) (x : Numbered) (w : World) → IsInRound c lines n w → next_packet w ≡ Some x → IsInRound c lines n (arrives c n x w) → AreTogether w e → AreTogether (arrives c n x w) e → (arrives c n x w).over ≡ None → IsAllCarried c e w → IsAllCarried c e (arrives c n x w)
one_delivery c left lines n e x w round next follows before after within old = by_member (boot_in e.members.boot x.packet.to) refl
  where
    there : Among x w.underway
    there = next_among w w.over x next

    by_taken : (m : IsMember e x.packet.to) (i : IsInside w e x.packet.to) (b : Bool) → is_dropped x.packet i.view ≡ b → IsAllCarried c e (arrives c n x w)
    by_taken m i false taken = by_kind c left lines n e x w (record { round = round; next = next; follows = follows; member = m; view = i.view; here = i.here; taken = taken; before = before; after = after; within = within }) old
    by_taken m i true dropped = passes_by c lines n e x w round there
        (λ from to b g. true_false (sym dropped ∙ (ap (λ (p : Packet). is_dropped p i.view) g.is ∙ member_takes c e from to b i.view i.epoch (i.boot ∙ ap (boot_in e.members.boot) (ap (λ (p : Packet). p.to) g.is)))))
        (λ k v here. subst (λ (y : SiteView). is_dropped x.packet y ≡ true) (view_eq (place_at w x.packet.to) i.view v i.here here) dropped) within old

    by_member : (k : ℕ) → boot_in e.members.boot x.packet.to ≡ k → IsAllCarried c e (arrives c n x w)
    by_member zero is = passes_by c lines n e x w round there (λ from to b g. g.receiver (ap (boot_in e.members.boot) (ap (λ (p : Packet). p.to) (sym g.is)) ∙ is)) (λ m. absurd (m is)) within old
    by_member (suc k) is = (let m : IsMember e x.packet.to = λ z. not_zero k (sym is ∙ z) in let i : IsInside w e x.packet.to = before.inside x.packet.to m in by_taken m i (is_dropped x.packet i.view) refl)
      where
        not_zero : (k : ℕ) → suc k ≡ 0 → ⊥
        not_zero k z = omega (arith, z)
