-- Records of accepted calls, of looks and of replies are texts.
use Rattle.std.proofs.Common.{◌≡◌, ℕ, zero, suc, ◌+◌, ◌-◌, ◌==◌, ◌&&◌, ◌||◌, Bool, true, false, cond, List, [], ◌∷◌, length, take, Option, Some, None, refl, subst}
use Rattle.std.specs.Prelude.{nat_lt, nat_le}
use Rattle.std.specs.List.{list_all, list_any, AllByRecursion}
use Rattle.locus_ids.specs.declared.config.Config.{Config}
use Rattle.locus_ids.specs.declared.ids.CallId.{CallId}
use Rattle.locus_ids.specs.declared.ids.EpochId.{EpochId}
use Rattle.locus_ids.specs.declared.ids.FileId.{FileId}
use Rattle.locus_ids.specs.declared.ids.Kind.TheVariants.{File, Dir}
use Rattle.locus_ids.specs.declared.ids.Stamp.{Stamp}
use Rattle.locus_ids.specs.declared.refusal.Refusal.TheVariants as refusal
use Rattle.locus_ids.specs.Sizes.{sites_max}
use Rattle.commit_graph.specs.Versions.{same_file}
use Rattle.trace_book.specs.declared.call.Call.{Call}
use Rattle.trace_book.specs.declared.call.Call.TheVariants as call
use Rattle.trace_book.specs.declared.operation.What.{What}
use Rattle.trace_book.specs.declared.operation.What.TheVariants as what
use Rattle.trace_book.specs.declared.operation.Served.{Served}
use Rattle.trace_book.specs.declared.operation.Served.TheVariants as served
use Rattle.trace_book.specs.declared.record.Record.TheVariants as rec
use Rattle.trace_book.specs.declared.reply.Reply.{Reply}
use Rattle.trace_book.specs.declared.reply.Reply.TheVariants as reply
use Rattle.schedule_lines.specs.Ranges.{fits_call}
use Rattle.wire_fields.specs.Components.{is_component}
use Rattle.call_rules.specs.declared.answer.Answer.{Answer}
use Rattle.call_rules.specs.declared.want.Want.{Want}
use Rattle.call_rules.specs.declared.want.Want.TheVariants as want
use Rattle.text_laws.specs.CallTexts.Wants.{is_answer, is_asked_what, is_mount, is_want}
use Rattle.tree_model.specs.Epochs.{is_in}
use Rattle.tree_model.specs.Given.{only_kept, served_by}
use Rattle.tree_model.specs.Same.{is_served, same_kind}
use Rattle.tree_model.specs.Packs.{no_sites}
use Rattle.tree_model.specs.State.{has_stamp}
use Rattle.promises.specs.Past.{Past, Epoch, CallSoFar, Making, site_at, epoch_at, kept_in, making_of, is_number, asks, asks_after}
use Rattle.promises.specs.After.{is_id}
use Rattle.promises.specs.Rows.{gives, is_changed, is_due, is_home, is_scripted, is_step_of, is_synced, may_answer, may_call, may_look, may_mend_in, waits_at}
use Rattle.promises.specs.Same.{same_request}
use Rattle.past_laws.proofs.Alls.{all_first, all_more}
use Rattle.past_laws.proofs.BackSame.{look_back, reply_back}
use Rattle.past_laws.proofs.Names.{both, both_parts, call_eq, false_true, file_eq, number_eq}
use Rattle.record_reading.specs.Ranges as range
use Rattle.text_laws.specs.TreeTexts.NewTexts.{is_new_call}
use Rattle.text_laws.proofs.TreeTexts.Asking.{after_text, asks_text}
use Rattle.text_laws.proofs.TreeTexts.Same.{served_same}
use Rattle.text_laws.proofs.TreeTexts.Texts.{CallText, EpochText, PastText, at_epoch, call_epoch, each_any, each_or, home_site, is_making, kept_text, up_site}

-- ---- calls ----

pub each_true : {X : Type 0} (q : X → Bool) (xs : List X) → list_all q xs ≡ true → AllByRecursion (λ (x : X). q x ≡ true) xs
each_true q [] h = tt
each_true q (x ∷ xs) h = let parts = all_first q x xs h in (parts.0, each_true q xs parts.1)

-- a directory is a file that is made
making_text : (p : Past) (f : FileId) → PastText p → same_kind (making_of p f).kind Dir ≡ true → range.is_file f ≡ true
making_text p f h = each_or (λ (m : Making). is_making m ≡ true) (λ (m : Making). same_kind m.kind Dir ≡ true → range.is_file f ≡ true) (record { file = f; kind = File; set = no_sites }) (λ (m : Making). same_file m.file f) p.files
    (λ k. false_true k)
    (λ m e own k. subst (λ (g : FileId). range.is_file g ≡ true) (file_eq m.file f e) own)
    (each_true is_making p.files h.files)

system_words : (process : ℕ) (f : FileId) → (process == 0) ≡ true → range.is_file f ≡ true → range.is_words process (call.Mend f) ≡ true
system_words process f e h = over (process == 0) e
  where
    over : (b : Bool) → b ≡ true → cond b (range.is_mend (call.Mend f)) (fits_call sites_max (call.Mend f)) ≡ true
    over true k = h
    over false k = false_true k

-- the words of a mend, and the site of any call that may come
call_parts : (c : Config) (p : Past) (site process : ℕ) (id : CallId) (words : Call) → PastText p → may_call c p site process id words ≡ true → is_new_call process words ≡ true → (range.is_any_site site ≡ true) × (range.is_words process words ≡ true)
call_parts c p site process id (call.Mend f) h may new =
    let a = both_parts (process == 0) _ may in
    let b = both_parts (same_kind (making_of p f).kind Dir) _ a.1 in
    let d = both_parts (list_any (may_mend_in c p site f) p.epochs) _ b.1 in (
      each_any EpochText (range.is_any_site site ≡ true) (may_mend_in c p site f) p.epochs (λ t m k. home_site p site t.id h (both_parts (is_in (site_at p site).epoch t.id) _ m).0) h.epochs d.0,
      system_words process f a.0 (making_text p f h b.0),
    )
call_parts c p site process id words h may new = (up_site p site h (both_parts (site_at p site).up _ may).0, new)

pub accept_row : (c : Config) (p : Past) (site process : ℕ) (id : CallId) (words : Call) → PastText p → may_call c p site process id words ≡ true → (range.is_process process && (range.is_call_id id && is_new_call process words)) ≡ true → range.is_record (rec.Accept site process id words) ≡ true
accept_row c p site process id words h may new =
    let a = both_parts (range.is_process process) (range.is_call_id id && is_new_call process words) new in
    let b = both_parts (range.is_call_id id) (is_new_call process words) a.1 in
    let d = call_parts c p site process id words h may b.1 in
    both (range.is_any_site site) _ d.0 (both (range.is_process process) _ a.0 (both (range.is_call_id id) (range.is_words process words) b.0 d.1))

-- ---- looks ----

only_text : (ss : List Stamp) → list_all range.is_stamp ss ≡ true → range.is_served (only_kept ss) ≡ true
only_text [] h = refl
only_text (a ∷ []) h = (all_first range.is_stamp a [] h).0
only_text (a ∷ b ∷ ss) h = let parts = all_first range.is_stamp a (b ∷ ss) h in both (range.is_stamp a) (range.is_stamp b) parts.0 (all_first range.is_stamp b ss parts.1).0

abbrev is_optional_served : Option Served → Bool
is_optional_served None = true
is_optional_served (Some s) = range.is_served s

served_text : (w : What) (ss : List Stamp) → is_asked_what w ≡ true → list_all range.is_stamp ss ≡ true → is_optional_served (served_by w ss) ≡ true
served_text (what.Name component) ss k h = only_text ss h
served_text what.List ss k h = only_text ss h
served_text what.Stat ss k h = only_text ss h
served_text (what.Whole asked) ss k h = over (has_stamp ss asked)
  where
    over : (b : Bool) → is_optional_served (cond b (Some (served.At asked)) None) ≡ true
    over true = k
    over false = refl

result_text : (o : Option Served) (result : Served) → is_optional_served o ≡ true → is_served o result ≡ true → range.is_served result ≡ true
result_text None result h k = false_true k
result_text (Some s) result h k = served_same s result k h

look_text : (w : What) (result : Served) → is_asked_what w ≡ true → range.is_served result ≡ true → range.is_look w result ≡ true
look_text (what.Name component) result h k = both (is_component component) (range.is_served result) h k
look_text what.List result h k = k
look_text what.Stat result h k = k
look_text (what.Whole stamp) result h k = both (range.is_stamp stamp) (range.is_served result) h k

pub taken_text : (n : ℕ) (xs : List Answer) → list_all is_answer xs ≡ true → list_all is_answer (take n xs) ≡ true
taken_text zero xs h = refl
taken_text (suc n) [] h = refl
taken_text (suc n) (x ∷ xs) h = let parts = all_first is_answer x xs h in all_more is_answer x (take n xs) parts.0 (taken_text n xs parts.1)

-- the call of a step, and the epoch that it was accepted in
pub step_call : (P : CallSoFar → Bool) (A : Type 0) (p : Past) (t : Epoch) (id : CallId) → PastText p → ((k : CallSoFar) → k.id ≡ id → CallText k → P k ≡ true → A) → is_step_of p t id P ≡ true → A
step_call P A p t id h of may = each_any CallText A (λ k. is_id id k && (is_in k.epoch t.id && P k)) p.calls (λ k m own. (let a = both_parts (is_id id k) _ m in of k (call_eq k.id id a.0) own (both_parts (is_in k.epoch t.id) (P k) a.1).1)) h.calls may

pub named_text : (k : CallSoFar) (id : CallId) → k.id ≡ id → CallText k → range.is_call_id id ≡ true
named_text k id e h = subst (λ (d : CallId). range.is_call_id d ≡ true) e h.id

pub epoch_text : (t : Epoch) (e : EpochId) → t.id ≡ e → EpochText t → range.is_epoch e ≡ true
epoch_text t e is h = subst (λ (d : EpochId). range.is_epoch d ≡ true) is h.id

look_in : (c : Config) (p : Past) (t : Epoch) (e : EpochId) (id : CallId) (request : ℕ) (f : FileId) (w : What) (result : Served) → list_all is_mount c.mounts ≡ true → PastText p → range.is_request request ≡ true → t.id ≡ e → EpochText t → may_look c p t id request f w result ≡ true → range.is_record (rec.Look e id request f w result) ≡ true
look_in c p t e id request f w result mounts h new is own may =
    let a = both_parts (is_number t.started f.group) _ may in
    let b = both_parts (is_synced c t f.group) _ a.1 in
    let d = both_parts (is_served (served_by w (kept_in p t f)) result) (is_step_of p t id asked) b.1 in
    step_call asked (range.is_record (rec.Look e id request f w result) ≡ true) p t id h (λ k named call m. of k named call (asked_so k m) d.0) d.1
  where
    asked : CallSoFar → Bool
    asked k = nat_lt 0 request && (nat_le (length k.answers) request && (nat_le request (length k.answers + 1) && same_request (asks_after c p k (take (request - 1) k.answers)) (want.Look f w)))

    asked_so : (k : CallSoFar) → asked k ≡ true → same_request (asks_after c p k (take (request - 1) k.answers)) (want.Look f w) ≡ true
    asked_so k m = (both_parts (nat_le request (length k.answers + 1)) _ (both_parts (nat_le (length k.answers) request) _ (both_parts (nat_lt 0 request) _ m).1).1).1

    of : (k : CallSoFar) → k.id ≡ id → CallText k → same_request (asks_after c p k (take (request - 1) k.answers)) (want.Look f w) ≡ true → is_served (served_by w (kept_in p t f)) result ≡ true → range.is_record (rec.Look e id request f w result) ≡ true
    of k named call same given =
        let wants : is_want (want.Look f w) ≡ true = subst (λ (v : Want). is_want v ≡ true) (look_back (asks_after c p k (take (request - 1) k.answers)) f w same) (after_text c p k (take (request - 1) k.answers) mounts call (taken_text (request - 1) k.answers call.answers)) in
        let parts = both_parts (range.is_file f) (is_asked_what w) wants in
        let gave : range.is_served result ≡ true = result_text (served_by w (kept_in p t f)) result (served_text w (kept_in p t f) parts.1 (kept_text p t f own)) given in
        both (range.is_epoch e) _ (epoch_text t e is own) (both (range.is_call_id id) _ (named_text k id named call) (both (range.is_request request) _ new (both (range.is_file f) (range.is_look w result) parts.0 (look_text w result parts.1 gave))))

pub look_row : (c : Config) (p : Past) (e : EpochId) (id : CallId) (request : ℕ) (f : FileId) (w : What) (result : Served) → list_all is_mount c.mounts ≡ true → PastText p → range.is_request request ≡ true → may_look c p (epoch_at p e) id request f w result ≡ true → range.is_record (rec.Look e id request f w result) ≡ true
look_row c p e id request f w result mounts h new = at_epoch (λ t. may_look c p t id request f w result ≡ true → range.is_record (rec.Look e id request f w result) ≡ true) p e h
    (λ may. false_true may)
    (λ t is own may. look_in c p t e id request f w result mounts h new is own may)

-- ---- replies ----

given_text : (w : Want) (r : Reply) → is_want w ≡ true → gives w r ≡ true → range.is_reply r ≡ true
given_text (want.Give given) r h k = subst (λ (x : Reply). range.is_reply x ≡ true) (reply_back given r k) h
given_text _ r h k = false_true k

changed_text : (p : Past) (k : CallSoFar) (r : Reply) → CallText k → is_changed p k r ≡ true → range.is_reply r ≡ true
changed_text p k (reply.No (refusal.Changed e)) h m = call_epoch k e h (both_parts (is_in k.epoch e) _ m).0
changed_text p k _ h m = false_true m

either_text : (c : Config) (p : Past) (k : CallSoFar) (r : Reply) → list_all is_mount c.mounts ≡ true → CallText k → (is_scripted c p k r || is_changed p k r) ≡ true → range.is_reply r ≡ true
either_text c p k r mounts h m = over (is_scripted c p k r) refl m
  where
    over : (b : Bool) → is_scripted c p k r ≡ b → (b || is_changed p k r) ≡ true → range.is_reply r ≡ true
    over true e g = given_text (asks c p k) r (asks_text c p k mounts h) (both_parts (is_due p.last k) (gives (asks c p k) r) (both_parts (is_home p k) _ e).1).1
    over false e g = changed_text p k r h g

pub answer_row : (c : Config) (p : Past) (site process : ℕ) (id : CallId) (r : Reply) → list_all is_mount c.mounts ≡ true → PastText p → may_answer c p site process id r ≡ true → range.is_record (rec.Answer site process id r) ≡ true
answer_row c p site process id r mounts h may = each_any CallText (range.is_record (rec.Answer site process id r) ≡ true) test p.calls one h.calls may
  where
    test : CallSoFar → Bool
    test k = is_id id k && (waits_at site process k && (is_scripted c p k r || is_changed p k r))

    one : (k : CallSoFar) → test k ≡ true → CallText k → range.is_record (rec.Answer site process id r) ≡ true
    one k m own =
        let a = both_parts (is_id id k) _ m in
        let b = both_parts (waits_at site process k) (is_scripted c p k r || is_changed p k r) a.1 in
        let d = both_parts (k.id.site == site) (k.process == process) (both_parts k.waits _ b.0).1 in
        let site_is : range.is_any_site site ≡ true = subst (λ (n : ℕ). range.is_any_site n ≡ true) (number_eq k.id.site site d.0) (both_parts (range.is_any_site k.id.site) _ own.id).0 in
        let process_is : range.is_process process ≡ true = subst (λ (n : ℕ). range.is_process n ≡ true) (number_eq k.process process d.1) own.process in
        both (range.is_any_site site) _ site_is (both (range.is_process process) _ process_is (both (range.is_call_id id) (range.is_reply r) (named_text k id (call_eq k.id id a.0) own) (either_text c p k r mounts own b.1)))
