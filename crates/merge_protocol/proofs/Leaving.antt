-- What a site does at a step is what its place in epochs does, and then what its other roles do.
use Rattle.std.proofs.Common.{◌≡◌, ◌+◌, ◌&&◌, not, cond, true, false, Bool, ℕ, List, [], ◌∷◌, ◌++◌, Option, None, Some, refl, sym, ap, ◌∙◌, subst, append-nil}
use Rattle.locus_ids.specs.declared.ids.EpochId.{EpochId}
use Rattle.locus_ids.specs.declared.sites.Links.{Links}
use Rattle.locus_ids.specs.declared.sites.Sites.{Sites}
use Rattle.locus_ids.specs.declared.config.Config.{Config}
use Rattle.trace_book.specs.Same.{same_epoch}
use Rattle.trace_book.specs.declared.record.Record.{Record}
use Rattle.trace_book.specs.declared.record.Record.TheVariants as says
use Rattle.role_steps.specs.Using.{users_leave}
use Rattle.epoch_rules.specs.Answers.{poll_answer}
use Rattle.epoch_rules.specs.declared.promised.PollAnswer.TheVariants as answer
use Rattle.epoch_rules.specs.declared.promised.Promised.{Promised}
use Rattle.site_frame.specs.Printed.{printed}
use Rattle.site_frame.proofs.Printing.{printed_append}
use Rattle.role_steps.specs.Views.{SiteView, Told, Promises, Outcome, quiet, sends}
use Rattle.role_steps.specs.Epochs.{is_epoch_below, reached, promise_packet, refuse_packet, begins_round, starts_merge, starts_part, starts_part_of, on_poll, on_refuse, on_refuse_of, passed_over, passes_over, decides_if, unanswered, round_id, boots_where, merge_boot, part_boot}
use Rattle.role_steps.specs.declared.rounds.InEpoch.{InEpoch}
use Rattle.role_steps.specs.declared.rounds.Round.{Round}
use Rattle.merge_protocol.specs.Parts.{epoch_part, alone, epoch_named, left_at_poll, left_at_refuse, decided, decision, passed_round, polled_again, promises_to, EpochPart}
use Rattle.merge_protocol.specs.Laws.{LeavesAs, LeavesBy, decided_by, passes_by}

-- a promise isn't printed
promise_unprinted : (told : List Told) (me : ℕ) (id : EpochId) (reach : Sites) → printed ((told ++ Promises me id reach ∷ []) ++ []) ≡ printed told
promise_unprinted told me id reach = ap printed (append-nil (told ++ Promises me id reach ∷ [])) ∙ (printed_append told (Promises me id reach ∷ []) ∙ append-nil (printed told))

LeavesAs-along : (me : ℕ) (left left' : Option EpochId) (v : SiteView) (part part' whole whole' : Outcome SiteView) → left ≡ left' → part ≡ part' → whole ≡ whole' → LeavesAs me left' v part' whole' → LeavesAs me left v part whole
LeavesAs-along me left left' v part part' whole whole' e f g h = subst (λ (l : Option EpochId). LeavesAs me l v part whole) (sym e) (subst (λ (p : Outcome SiteView). LeavesAs me left' v p whole) (sym f) (subst (λ (w : Outcome SiteView). LeavesAs me left' v part' w) (sym g) h))

-- ---- a round begins ----

begins_at : (me : ℕ) (links : Links) (number : ℕ) (polled : Links) (v : SiteView) (e : Option InEpoch) → LeavesBy me (epoch_named e) (record v { epoch = e }) (begins_round me links number polled)
begins_at me links number polled v None = (refl, refl, refl, refl, refl)
begins_at me links number polled v (Some e) = (refl, refl, refl, ap (λ (rs : List Record). says.Leave me e.id ∷ rs) (promise_unprinted (users_leave me v.boot e.id v.users).told me (round_id me number v) (reached links)), refl)

pub begins_leaves : (me : ℕ) (links : Links) (number : ℕ) (polled : Links) (v : SiteView) → LeavesBy me (epoch_named v.epoch) v (begins_round me links number polled)
begins_leaves me links number polled v = begins_at me links number polled v v.epoch

pub merge_leaves : (me : ℕ) (links : Links) (v : SiteView) → LeavesBy me (epoch_named v.epoch) v (starts_merge me links)
merge_leaves me links v = begins_leaves me links (v.promised.number + 1) (boots_where (merge_boot me links)) v

part_at : (me : ℕ) (links : Links) (v : SiteView) (e : Option InEpoch) → LeavesBy me (epoch_named e) (record v { epoch = e }) (starts_part me links)
part_at me links v None = (refl, refl, refl, refl, refl)
part_at me links v (Some e) = begins_at me links (v.promised.number + 1) (boots_where (part_boot me links e.members)) v (Some e)

pub part_leaves : (me : ℕ) (links : Links) (v : SiteView) → LeavesBy me (epoch_named v.epoch) v (starts_part me links)
part_leaves me links v = part_at me links v v.epoch

-- ---- a poll ----

abbrev pub promised_up : ℕ → Links → ℕ → ℕ → EpochId → SiteView → Outcome SiteView
promised_up me links from from_boot id v = promises_to me (reached links) from from_boot id v

abbrev pub answered : ℕ → Links → ℕ → ℕ → EpochId → SiteView → Outcome SiteView
answered me links from from_boot id v = sends (cond (same_epoch id v.promised && not v.installed) (promise_packet me links from from_boot id v) (refuse_packet me from from_boot id v)) v

pub poll_above : (me : ℕ) (links : Links) (from from_boot : ℕ) (id : EpochId) (v : SiteView) → is_epoch_below v.promised id ≡ true → on_poll me links from from_boot id v ≡ promised_up me links from from_boot id v
poll_above me links from from_boot id v t = rw (t, on_poll) refl

pub poll_not_above : (me : ℕ) (links : Links) (from from_boot : ℕ) (id : EpochId) (v : SiteView) → is_epoch_below v.promised id ≡ false → on_poll me links from from_boot id v ≡ answered me links from from_boot id v
poll_not_above me links from from_boot id v f = rw (f, on_poll) refl

up_at : (me : ℕ) (links : Links) (from from_boot : ℕ) (id : EpochId) (v : SiteView) (e : Option InEpoch) → LeavesBy me (epoch_named e) (record v { epoch = e }) (promised_up me links from from_boot id)
up_at me links from from_boot id v None = (refl, refl, refl, refl, refl)
up_at me links from from_boot id v (Some e) = (refl, refl, refl, ap (λ (rs : List Record). says.Leave me e.id ∷ rs) (promise_unprinted (users_leave me v.boot e.id v.users).told me id (reached links)), refl)

poll_at : (me : ℕ) (links : Links) (from from_boot : ℕ) (id : EpochId) (v : SiteView) (b : Bool) → is_epoch_below v.promised id ≡ b → LeavesBy me (left_at_poll id (epoch_part v)) v (on_poll me links from from_boot id)
poll_at me links from from_boot id v true t =
    LeavesAs-along me (left_at_poll id (epoch_part v)) (epoch_named v.epoch) v (on_poll me links from from_boot id (alone (epoch_part v))) (promised_up me links from from_boot id (alone (epoch_part v))) (on_poll me links from from_boot id v) (promised_up me links from from_boot id v)
    (ap (λ (b : Bool). cond b (epoch_named v.epoch) None) t) (poll_above me links from from_boot id (alone (epoch_part v)) t) (poll_above me links from from_boot id v t) (up_at me links from from_boot id v v.epoch)
poll_at me links from from_boot id v false f =
    LeavesAs-along me (left_at_poll id (epoch_part v)) None v (on_poll me links from from_boot id (alone (epoch_part v))) (answered me links from from_boot id (alone (epoch_part v))) (on_poll me links from from_boot id v) (answered me links from from_boot id v)
    (ap (λ (b : Bool). cond b (epoch_named v.epoch) None) f) (poll_not_above me links from from_boot id (alone (epoch_part v)) f) (poll_not_above me links from from_boot id v f) (refl, refl, refl, refl, refl)

pub poll_leaves : (me : ℕ) (links : Links) (from from_boot : ℕ) (id : EpochId) (v : SiteView) → LeavesBy me (left_at_poll id (epoch_part v)) v (on_poll me links from from_boot id)
poll_leaves me links from from_boot id v = poll_at me links from from_boot id v (is_epoch_below v.promised id) refl

-- ---- a refusal ----

refuse_counts : (me : ℕ) (links : Links) (id promised : EpochId) (r : Round) (v : SiteView) → same_epoch r.id id ≡ true → on_refuse_of me links id promised (Some r) v ≡ begins_round me links (promised.number + 1) r.polled v
refuse_counts me links id promised r v t = rw (t, on_refuse_of) refl

refuse_counts_not : (me : ℕ) (links : Links) (id promised : EpochId) (r : Round) (v : SiteView) → same_epoch r.id id ≡ false → on_refuse_of me links id promised (Some r) v ≡ quiet v
refuse_counts_not me links id promised r v f = rw (f, on_refuse_of) refl

refuse_of : (me : ℕ) (links : Links) (id promised : EpochId) (r : Round) (v : SiteView) (b : Bool) → same_epoch r.id id ≡ b → LeavesAs me (cond (same_epoch r.id id) (epoch_named v.epoch) None) v (on_refuse_of me links id promised (Some r) (alone (epoch_part v))) (on_refuse_of me links id promised (Some r) v)
refuse_of me links id promised r v true t =
    LeavesAs-along me (cond (same_epoch r.id id) (epoch_named v.epoch) None) (epoch_named v.epoch) v (on_refuse_of me links id promised (Some r) (alone (epoch_part v))) (begins_round me links (promised.number + 1) r.polled (alone (epoch_part v))) (on_refuse_of me links id promised (Some r) v) (begins_round me links (promised.number + 1) r.polled v)
    (ap (λ (b : Bool). cond b (epoch_named v.epoch) None) t) (refuse_counts me links id promised r (alone (epoch_part v)) t) (refuse_counts me links id promised r v t) (begins_leaves me links (promised.number + 1) r.polled v)
refuse_of me links id promised r v false f =
    LeavesAs-along me (cond (same_epoch r.id id) (epoch_named v.epoch) None) None v (on_refuse_of me links id promised (Some r) (alone (epoch_part v))) (quiet (alone (epoch_part v))) (on_refuse_of me links id promised (Some r) v) (quiet v)
    (ap (λ (b : Bool). cond b (epoch_named v.epoch) None) f) (refuse_counts_not me links id promised r (alone (epoch_part v)) f) (refuse_counts_not me links id promised r v f) (refl, refl, refl, refl, refl)

refuse_at : (me : ℕ) (links : Links) (id promised : EpochId) (v : SiteView) (r : Option Round) → LeavesBy me (left_at_refuse id (epoch_part (record v { round = r }))) (record v { round = r }) (on_refuse me links id promised)
refuse_at me links id promised v None = (refl, refl, refl, refl, refl)
refuse_at me links id promised v (Some r) = refuse_of me links id promised r (record v { round = Some r }) (same_epoch r.id id) refl

pub refuse_leaves : (me : ℕ) (links : Links) (id promised : EpochId) (v : SiteView) → LeavesBy me (left_at_refuse id (epoch_part v)) v (on_refuse me links id promised)
refuse_leaves me links id promised v = refuse_at me links id promised v v.round

-- ---- the end of an event ----

decides_at : (c : Config) (me : ℕ) (links : Links) (r : Round) (missing : List ℕ) (v : SiteView) → decides_if c me links r missing v ≡ decided_by c me (record v { round = Some r }) (decided me links v.boot r missing)
decides_at c me links r [] v = refl
decides_at c me links r (s ∷ ss) v = refl

passes_at : (c : Config) (me : ℕ) (links : Links) (v : SiteView) (r : Option Round) → passes_over c me links (record v { round = r }) ≡ passes_by c me links (record v { round = r })
passes_at c me links v None = refl
passes_at c me links v (Some r) = decides_at c me links (passed_over links r) (unanswered (passed_over links r)) (record v { round = Some r })

pub passes_round : (c : Config) (me : ℕ) (links : Links) (v : SiteView) → passes_over c me links v ≡ passes_by c me links v
passes_round c me links v = passes_at c me links v v.round

-- ---- what the calls give ----

pub decided_is : (me : ℕ) (links : Links) (s : EpochPart) (r p : Round) (d : Option InEpoch) → s.round ≡ Some r → p ≡ passed_over links r → d ≡ decided me links s.boot p (unanswered p) → d ≡ decision me links s.boot (passed_round links s.round)
decided_is me links s r p d e f g = rw e (g ∙ ap (λ (q : Round). decided me links s.boot q (unanswered q)) f)

pub merge_is : (me : ℕ) (links : Links) (number : ℕ) (polled : Links) (s : EpochPart) → number ≡ s.promised.number + 1 → polled ≡ boots_where (merge_boot me links) → begins_round me links number polled (alone s) ≡ starts_merge me links (alone s)
merge_is me links number polled s e f = rw (e, f) refl

pub part_is : (me : ℕ) (links : Links) (number : ℕ) (polled : Links) (s : EpochPart) (in_it : InEpoch) → s.epoch ≡ Some in_it → number ≡ s.promised.number + 1 → polled ≡ boots_where (part_boot me links in_it.members) → begins_round me links number polled (alone s) ≡ starts_part me links (alone s)
part_is me links number polled s in_it g e f = rw (e, f) (sym (ap (λ (x : Option InEpoch). starts_part_of me links x (alone s)) g))

polled_of : (me : ℕ) (links : Links) (id promised : EpochId) (number : ℕ) (polled : Links) (s : EpochPart) (r : Option Round) → Some polled ≡ polled_again id r → number ≡ promised.number + 1 → begins_round me links number polled (alone s) ≡ on_refuse_of me links id promised r (alone s)
polled_of me links id promised number polled s None g e = absurd (cc)
polled_of me links id promised number polled s (Some r) g e = counted (same_epoch r.id id) refl where
  some_eq : (a b : Links) → ◌≡◌ {A = Option Links} (Some a) (Some b) → a ≡ b
  some_eq a b q = cc

  counted : (b : Bool) → same_epoch r.id id ≡ b → begins_round me links number polled (alone s) ≡ on_refuse_of me links id promised (Some r) (alone s)
  counted true t = let same : polled ≡ r.polled = some_eq polled r.polled (g ∙ ap (λ (b : Bool). cond b (Some r.polled) None) t) in
      rw (e, same) (sym (refuse_counts me links id promised r (alone s) t))
  counted false f = let none : ◌≡◌ {A = Option Links} (Some polled) None = g ∙ ap (λ (b : Bool). cond b (Some r.polled) None) f in absurd (cc)

pub refuse_is : (me : ℕ) (links : Links) (id promised : EpochId) (number : ℕ) (polled : Links) (s : EpochPart) → Some polled ≡ polled_again id s.round → number ≡ promised.number + 1 → begins_round me links number polled (alone s) ≡ on_refuse me links id promised (alone s)
refuse_is me links id promised number polled s g e = polled_of me links id promised number polled s s.round g e

pub asks_promise : (id : EpochId) (p : Promised) → answer.Promise ≡ poll_answer id p → is_epoch_below p.id id ≡ true
asks_promise id p e = by_case (is_epoch_below p.id id) (same_epoch id p.id && not p.installed) e where
  by_case : (a b : Bool) → answer.Promise ≡ cond a answer.Promise (cond b answer.Again (answer.Refuse p.id)) → a ≡ true
  by_case true b q = refl
  by_case false true q = absurd (cc)
  by_case false false q = absurd (cc)

pub promise_is : (me : ℕ) (links : Links) (from from_boot : ℕ) (id : EpochId) (s : EpochPart) → answer.Promise ≡ poll_answer id (record { id = s.promised; installed = s.installed }) → promises_to me (reached links) from from_boot id (alone s) ≡ on_poll me links from from_boot id (alone s)
promise_is me links from from_boot id s e = sym (poll_above me links from from_boot id (alone s) (asks_promise id (record { id = s.promised; installed = s.installed }) e))
