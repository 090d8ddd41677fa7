-- What a storage site gives of operations, looks and pulls is of the format.
use Rattle.std.proofs.Common.{◌≡◌, ◌≤◌, ◌<◌, ◌^◌, ℕ, zero, suc, ◌+◌, ◌-◌, ◌*◌, ◌/◌, ◌==◌, min, nat_le, nat_lt, Bool, true, false, cond, List, [], ◌∷◌, drop, filter, length, map, take, Option, None, Some, refl, arith}
use Rattle.std.proofs.lemmas.Bool.Decides.{nat_tests}
use Rattle.std.proofs.lemmas.List.{length-drop, length-take}
use Rattle.role_steps.proofs.of_plain_facts.Tests.{both_true}
use Rattle.locus_ids.specs.declared.ids.FileId.{FileId}
use Rattle.locus_ids.specs.declared.ids.Serial.{Serial}
use Rattle.locus_ids.specs.declared.ids.Stamp.{Stamp}
use Rattle.locus_ids.specs.declared.refusal.Refusal.TheVariants as refusal
use Rattle.locus_ids.specs.Sizes.{file_bytes_max, pack_pages, page_bytes}
use Rattle.commit_graph.specs.Versions.{same_stamp}
use Rattle.dir_format.specs.Entries.{nothing_seen}
use Rattle.call_rules.specs.of_commit_graph.Grants.{is_read}
use Rattle.field_codec.specs.Codec.{u16, within}
use Rattle.field_codec.specs.Lists.{AllFit}
use Rattle.file_content.specs.Pages.{has_page as is_among, page_of, pages_from, pages_of}
use Rattle.file_effects.specs.Effects.{Effect, is_refusal}
use Rattle.file_effects.specs.Works.{aborted, carried_out, counted, operated, result_in}
use Rattle.trace_book.specs.declared.operation.Op.{Op}
use Rattle.trace_book.specs.declared.operation.Op.TheVariants as op
use Rattle.trace_book.specs.declared.operation.Outcome.{Outcome as Result}
use Rattle.trace_book.specs.declared.operation.Outcome.TheVariants as result
use Rattle.trace_book.specs.declared.operation.What.{What}
use Rattle.file_effects.specs.declared.work.Work.{Work}
use Rattle.wire_fields.specs.Parts.{files, sizes, stamps}
use Rattle.wire_fields.specs.declared.asked.Asked.TheVariants as asked
use Rattle.wire_fields.specs.declared.asked.Gave.TheVariants as gave
use Rattle.wire_fields.specs.Operations.{ops, outcomes, whats}
use Rattle.wire_fields.proofs.Members.{in_range}
use Rattle.wire_messages.specs.Answers.{look_answers}
use Rattle.wire_messages.specs.Bodies.{page_numbers}
use Rattle.wire_messages.specs.declared.body.Body.{Body}
use Rattle.wire_messages.specs.declared.body.Body.TheVariants as body
use Rattle.wire_messages.specs.declared.packet.Packet.{Packet}
use Rattle.wire_messages.specs.declared.body.LookAnswer.{LookAnswer}
use Rattle.wire_messages.specs.declared.body.LookAnswer.TheVariants as looked
use Rattle.role_steps.specs.Looks.{LookRequest}
use Rattle.role_steps.specs.OperationEffects.{Mending, effect_of}
use Rattle.role_steps.specs.Operations.{abort_op, acts, acts_committed, by_number, commit_op, commits_owing, executes, executes_effect, in_form, last_committed, nothing_to_mend, on_op, on_op_at, on_op_of, on_read_held, op_again, op_done, short_body, short_packet}
use Rattle.role_steps.specs.Own.{Every}
use Rattle.role_steps.specs.Storage.{changed_pages, commits, content_of, copy_of, copy_pages, delta_of, free_pages, has_page, instance_of, is_spent, next_stamp, next_vector, on_look_ss, on_pull, on_want, pages_since, pulled_page, served_content, served_copy, steps_of, wanted_delta}
use Rattle.role_steps.specs.Tables.{total}
use Rattle.role_steps.specs.Views.{Frame, Outcome, Store, and_then, file_key, packet, quiet, sends}
use Rattle.role_steps.specs.declared.copies.FileCopy.{FileCopy}
use Rattle.role_steps.specs.declared.instances.Instance.{Instance}
use Rattle.role_steps.specs.declared.instances.Stage.{Stage}
use Rattle.role_steps.specs.declared.instances.Stage.TheVariants as stage
use Rattle.role_steps.proofs.Sending.{every_cond}
use Rattle.the_run.proofs.InsideSync.{Found}
use Rattle.packet_laws.specs.Fitting.Fields.{IsSite}
use Rattle.packet_laws.specs.Values.Bodies.{FitsBut, IsListed, NamesListed}
use Rattle.packet_laws.specs.Values.Values.{CopyFits, InstanceFits, ResultIfAny, SentFits, ShownFit, StampIfAny, StoreFits, VersionIfAny}
use Rattle.packet_laws.proofs.Values.Copies.{content_fits, found_copy}
use Rattle.packet_laws.proofs.Values.Effects.{EffectFits, EffectIfAny, effect_of_fits, filter_most, from_length, result_fits}
use Rattle.packet_laws.proofs.Values.Entries.{served_fits}
use Rattle.packet_laws.proofs.Values.Fields.{every_some, one_fits, size_fits, size_most}
use Rattle.packet_laws.proofs.Values.Store.{StoreDone, commits_fit, found_instance, kept_fits}

-- ---- operations ----

-- what an instance works on
pub record WorkFits (i : Instance) (w : Work) : Type 0 where
  pub content : sizes.Fits (length w.content)
  pub last : StampIfAny w.last
  pub committed : VersionIfAny w.committed i.vector

counted_fits : (boots : List ℕ) (i : Instance) → InstanceFits boots i → WorkFits i (counted i.work)
counted_fits boots i h = record { content = h.content; last = h.last; committed = h.committed }

done_fits : (f : Frame) (i : Instance) (n : ℕ) (r : Result) → InstanceFits f.members.boot i → outcomes.Fits (gave.Outcome r) → Every (SentFits f.members.boot) (op_done f i n r)
done_fits f i n r h k = (one_fits f i.inst.us (body.OpDone i.inst.serial n r) h.listed (h.named.1, k) tt, tt)

acts_fit : (f : Frame) (i : Instance) (o : Op) (r : Result) (w : Work) (s : Store) → outcomes.Fits (gave.Outcome r) → WorkFits i w → InstanceFits f.members.boot i → StoreFits f.members.boot s → StoreDone f.members.boot (acts f i o r w s)
acts_fit f i o r w s k work h s_fits = (
  done_fits f i w.ops r h k,
  kept_fits f.members.boot (record i { work = w; answered = Some r }) s (record { named = h.named; listed = h.listed; file = h.file; set = h.set; vector = h.vector; size = h.size; content = work.content; last = work.last; committed = work.committed; answered = k; stage = h.stage }) s_fits,
)

operated_fits : (boots : List ℕ) (i : Instance) (e : Effect) (r : Result) → EffectFits e → InstanceFits boots i → WorkFits i (operated e r i.work)
operated_fits boots i e r k h = over (is_refusal r)
  where
    over : (b : Bool) → WorkFits i (cond b (counted i.work) (carried_out e i.work))
    over true = counted_fits boots i h
    over false = record { content = size_fits (length e.content) k.size; last = h.last; committed = h.committed }

free_few : (s : Store) (group : ℕ) → free_pages s group ≤ pack_pages
free_few s group = few (total (copy_pages group) s.copies + total (changed_pages group) s.instances)
  where
    few : (n : ℕ) → pack_pages - n ≤ pack_pages
    few n = omega arith

executes_effect_fits : (f : Frame) (i : Instance) (o : Op) (e : Option Effect) (s : Store) → EffectIfAny e → InstanceFits f.members.boot i → StoreFits f.members.boot s → StoreDone f.members.boot (executes_effect f i o e s)
executes_effect_fits f i o None s k h s_fits = (tt, s_fits)
executes_effect_fits f i o (Some e) s k h s_fits =
    let r : Result = result_in (free_pages s i.file.group) i.work.changed e in
    acts_fit f i o r (operated e r i.work) s (result_fits (free_pages s i.file.group) i.work.changed e (free_few s i.file.group) k) (operated_fits f.members.boot i e r k h) h s_fits

acts_committed_fits : (f : Frame) (stamp : Stamp) (o : Option Instance) (s : Store) → stamps.Fits stamp → Found (InstanceFits f.members.boot) o → StoreFits f.members.boot s → StoreDone f.members.boot (acts_committed f stamp o s)
acts_committed_fits f stamp None s k found h = (tt, h)
acts_committed_fits f stamp (Some i) s k found h = acts_fit f i op.Commit (result.Committed stamp) (counted i.work) s k (counted_fits f.members.boot i found) found h

commits_owing_fits : (f : Frame) → IsSite f.me → (i : Instance) (s : Store) → InstanceFits f.members.boot i → StoreFits f.members.boot s → StoreDone f.members.boot (commits_owing f i s)
commits_owing_fits f site i s h k = over (is_spent f i) refl
  where
    over : (b : Bool) → is_spent f i ≡ b → StoreDone f.members.boot (elim b as (λ (t : Bool). Outcome Store) [ true ↦ acts f i op.Commit (result.No refusal.Spent) (counted i.work) s | false ↦ and_then (commits f i s) (λ now. acts_committed f (next_stamp f (next_vector f i)) (instance_of now i.inst) now) ])
    over true e = acts_fit f i op.Commit (result.No refusal.Spent) (counted i.work) s tt (counted_fits f.members.boot i h) h k
    over false e =
        let c : StoreFits f.members.boot (commits f i s).view × stamps.Fits (next_stamp f (next_vector f i)) = commits_fit f site i s e h k in
        acts_committed_fits f (next_stamp f (next_vector f i)) (instance_of (commits f i s).view i.inst) (commits f i s).view c.1 (found_instance f.members.boot (commits f i s).view i.inst c.0) c.0

last_committed_fits : (f : Frame) (i : Instance) (o : Option Stamp) (s : Store) → StampIfAny o → InstanceFits f.members.boot i → StoreFits f.members.boot s → StoreDone f.members.boot (last_committed f i o s)
last_committed_fits f i None s k h s_fits = (tt, s_fits)
last_committed_fits f i (Some stamp) s k h s_fits = acts_fit f i op.Commit (result.Committed stamp) (counted i.work) s k (counted_fits f.members.boot i h) h s_fits

commit_op_fits : (f : Frame) → IsSite f.me → (i : Instance) (s : Store) → InstanceFits f.members.boot i → StoreFits f.members.boot s → StoreDone f.members.boot (commit_op f i s)
commit_op_fits f site i s h k = over i.work.owes
  where
    over : (b : Bool) → StoreDone f.members.boot (elim b as (λ (t : Bool). Outcome Store) [ true ↦ commits_owing f i s | false ↦ last_committed f i i.work.last s ])
    over true = commits_owing_fits f site i s h k
    over false = last_committed_fits f i i.work.last s h.last h k

abort_op_fits : (f : Frame) (i : Instance) (s : Store) → InstanceFits f.members.boot i → StoreFits f.members.boot s → StoreDone f.members.boot (abort_op f i s)
abort_op_fits f i s h k = acts_fit f i op.Abort result.Done (aborted i.mode (content_of (copy_of s i.file)) i.work) s tt (record { content = content_fits (copy_of s i.file) (found_copy s (file_key i.file) k.copies); last = h.last; committed = h.committed }) h k

module _ (f : Frame) (site : IsSite f.me) (shown : ShownFit) where
  by_effect : (m : Mending) (i : Instance) (o : Op) (seen : List ℕ) (s : Store) → ops.Fits (asked.Op o seen) → InstanceFits f.members.boot i → StoreFits f.members.boot s → StoreDone f.members.boot (executes_effect f i o (effect_of o seen m i.work.content) s)
  by_effect m i o seen s k h s_fits = executes_effect_fits f i o (effect_of o seen m i.work.content) s (effect_of_fits i.work.content (size_most (length i.work.content) h.content) shown o seen m k) h s_fits

  executes_fit : (m : Mending) (i : Instance) (o : Op) (seen : List ℕ) (s : Store) → ops.Fits (asked.Op o seen) → InstanceFits f.members.boot i → StoreFits f.members.boot s → StoreDone f.members.boot (executes f m i o seen s)
  executes_fit m i op.Commit seen s k h s_fits = commit_op_fits f site i s h s_fits
  executes_fit m i op.Abort seen s k h s_fits = abort_op_fits f i s h s_fits
  executes_fit m i (op.Probe name) seen s k h s_fits = by_effect m i (op.Probe name) seen s k h s_fits
  executes_fit m i (op.Find component) seen s k h s_fits = by_effect m i (op.Find component) seen s k h s_fits
  executes_fit m i (op.Insert name ino kind) seen s k h s_fits = by_effect m i (op.Insert name ino kind) seen s k h s_fits
  executes_fit m i (op.Remove name ino) seen s k h s_fits = by_effect m i (op.Remove name ino) seen s k h s_fits
  executes_fit m i (op.Rename component name) seen s k h s_fits = by_effect m i (op.Rename component name) seen s k h s_fits
  executes_fit m i op.Empty seen s k h s_fits = by_effect m i op.Empty seen s k h s_fits
  executes_fit m i (op.Read at len) seen s k h s_fits = by_effect m i (op.Read at len) seen s k h s_fits
  executes_fit m i (op.Write at bytes) seen s k h s_fits = by_effect m i (op.Write at bytes) seen s k h s_fits
  executes_fit m i (op.Cut len) seen s k h s_fits = by_effect m i (op.Cut len) seen s k h s_fits
  executes_fit m i op.Mend seen s k h s_fits = by_effect m i op.Mend seen s k h s_fits

  again_fits : (i : Instance) (n : ℕ) (o : Option Result) → ResultIfAny o → InstanceFits f.members.boot i → Every (SentFits f.members.boot) (op_again f i n o)
  again_fits i n None k h = tt
  again_fits i n (Some r) k h = done_fits f i n r h k

  by_number_fits : (m : Mending) (i : Instance) (n : ℕ) (o : Op) (seen : List ℕ) (s : Store) → ops.Fits (asked.Op o seen) → InstanceFits f.members.boot i → StoreFits f.members.boot s → StoreDone f.members.boot (by_number f m i n o seen s)
  by_number_fits m i n o seen s k h s_fits = over (n == i.work.ops) (n == i.work.ops + 1)
    where
      over : (a b : Bool) → StoreDone f.members.boot (elim a as (λ (t : Bool). Outcome Store) [ true ↦ sends (op_again f i n i.answered) s | false ↦ elim b as (λ (t : Bool). Outcome Store) [ true ↦ executes f m i o seen s | false ↦ quiet s ] ])
      over true b = (again_fits i n i.answered h.answered h, s_fits)
      over false true = executes_fit m i o seen s k h s_fits
      over false false = (tt, s_fits)

  on_op_at_fits : (m : Mending) (i : Instance) (g : Stage) (n : ℕ) (o : Op) (seen : List ℕ) (s : Store) → ops.Fits (asked.Op o seen) → InstanceFits f.members.boot i → StoreFits f.members.boot s → StoreDone f.members.boot (on_op_at f m i g n o seen s)
  on_op_at_fits m i stage.Running n o seen s k h s_fits = by_number_fits m i n o seen s k h s_fits
  on_op_at_fits m i (stage.Closing made a) n o seen s k h s_fits = (tt, s_fits)
  on_op_at_fits m i (stage.Closed a) n o seen s k h s_fits = (tt, s_fits)

  on_op_of_fits : (m : Mending) (i : Option Instance) (n : ℕ) (o : Op) (seen : List ℕ) (s : Store) → ops.Fits (asked.Op o seen) → Found (InstanceFits f.members.boot) i → StoreFits f.members.boot s → StoreDone f.members.boot (on_op_of f m i n o seen s)
  on_op_of_fits m None n o seen s k found h = (tt, h)
  on_op_of_fits m (Some i) n o seen s k found h = on_op_at_fits m i i.stage n o seen s k found h

  pub on_op_fits : (m : Mending) (inst : Serial) (n : ℕ) (o : Op) (seen : List ℕ) (s : Store) → ops.Fits (asked.Op o seen) → StoreFits f.members.boot s → StoreDone f.members.boot (on_op f m inst n o seen s)
  on_op_fits m inst n o seen s k h = on_op_of_fits m (instance_of s inst) n o seen s k (found_instance f.members.boot s inst h) h

-- ---- reads whose bytes the asker has ----

short_body_fits : (boots : List ℕ) (b : Body) → FitsBut b → NamesListed boots b → FitsBut (short_body b) × NamesListed boots (short_body b)
short_body_fits boots (body.OpDone serial n (result.Data bytes)) k names = (k, tt)
short_body_fits boots b k names = (k, names)

short_fits : (boots : List ℕ) (p : Packet) → SentFits boots p → SentFits boots (short_packet p)
short_fits boots p h = let b : FitsBut (short_body p.body) × NamesListed boots (short_body p.body) = short_body_fits boots p.body h.body h.names in record { to = h.to; boot = h.boot; body = b.0; names = b.1 }

in_form_fits : (boots : List ℕ) (i : Option Instance) (o : Outcome Store) → StoreDone boots o → StoreDone boots (in_form i o)
in_form_fits boots None o h = h
in_form_fits boots (Some i) o h = (every_cond (SentFits boots) (is_read i.mode) (map short_packet o.sent) o.sent (every_some (SentFits boots) (SentFits boots) short_packet o.sent (short_fits boots) h.0) h.0, h.1)

pub on_read_held_fits : (f : Frame) → IsSite f.me → ShownFit → (inst : Serial) (n at len : ℕ) (s : Store) → ops.Fits (asked.Held at len) → StoreFits f.members.boot s → StoreDone f.members.boot (on_read_held f inst n at len s)
on_read_held_fits f site shown inst n at len s k h =
    in_form_fits f.members.boot (instance_of s inst) (on_op f nothing_to_mend inst n (op.Read at len) nothing_seen s) (on_op_fits f site shown nothing_to_mend inst n (op.Read at len) nothing_seen s (k, refl) h)

-- ---- looks ----

copy_served : (w : What) (stamp : Stamp) (o : Option FileCopy) → whats.Fits w → Found CopyFits o → look_answers.Fits (served_copy w stamp o)
copy_served w stamp None k h = tt
copy_served w stamp (Some x) k h = over (same_stamp x.stamp stamp)
  where
    over : (b : Bool) → look_answers.Fits (elim b as (λ (t : Bool). LookAnswer) [ true ↦ served_content w x.content | false ↦ looked.Moved ])
    over true = served_fits w x.content k h.size
    over false = tt

pub on_look_ss_fits : (f : Frame) (us : ℕ) (l : LookRequest) (stamp : Stamp) (s : Store) → IsListed f.members.boot us → whats.Fits l.what → StoreFits f.members.boot s → StoreDone f.members.boot (on_look_ss f us l stamp s)
on_look_ss_fits f us l stamp s listed k h = ((one_fits f us (body.LookDone l.call l.request l.take (served_copy l.what stamp (copy_of s l.file))) listed (copy_served l.what stamp (copy_of s l.file) k (found_copy s (file_key l.file) h.copies)) tt, tt), h)

-- ---- pages ----

page_fits : (content : List ℕ) (page : ℕ) → length content ≤ file_bytes_max → nat_lt page (pages_of (length content)) ≡ true → (1 ≤ length (page_of content page)) × (length (page_of content page) ≤ page_bytes) × (page < 2 ^ 8)
page_fits content page small e = all (length content) (length (page_of content page)) small below length_is
  where
    below : page < pages_of (length content)
    below = grind (arith, nat_tests)

    length_is : length (page_of content page) ≡ min page_bytes (length content - page_bytes * page)
    length_is = let a : length (take page_bytes (drop (page_bytes * page) content)) ≡ min page_bytes (length (drop (page_bytes * page) content)) = length-take page_bytes (drop (page_bytes * page) content) in let b : length (drop (page_bytes * page) content) ≡ length content - page_bytes * page = length-drop (page_bytes * page) content in omega (arith, a, b)

    all : (n m : ℕ) → n ≤ file_bytes_max → page < (n + (page_bytes - 1)) / page_bytes → m ≡ min page_bytes (n - page_bytes * page) → (1 ≤ m) × (m ≤ page_bytes) × (page < 2 ^ 8)
    all n m s b e = (omega (arith, s, b, e), omega (arith, e), omega (arith, s, b))

pulled_fits : (f : Frame) (from : ℕ) (file : FileId) (stamp : Stamp) (page : ℕ) (o : Option FileCopy) → IsListed f.members.boot from → files.Fits file → stamps.Fits stamp → Found CopyFits o → Every (SentFits f.members.boot) (pulled_page f from file stamp page o)
pulled_fits f from file stamp page None listed at s found = tt
pulled_fits f from file stamp page (Some x) listed at s found = over (has_page stamp page x) refl
  where
    narrow : (n : ℕ) → n ≤ page_bytes → n < 2 ^ 16
    narrow n le = omega (arith, le)

    over : (b : Bool) → has_page stamp page x ≡ b → Every (SentFits f.members.boot) (cond b (packet f from (body.Page file stamp page (page_of x.content page)) ∷ []) [])
    over true e =
        let k : (1 ≤ length (page_of x.content page)) × (length (page_of x.content page) ≤ page_bytes) × (page < 2 ^ 8) = page_fits x.content page (size_most (length x.content) found.size) (both_true (same_stamp x.stamp stamp) (nat_lt page (pages_of (length x.content))) e).1 in
        (one_fits f from (body.Page file stamp page (page_of x.content page)) listed ((at, (s, k.2)), (in_range 1 page_bytes (length (page_of x.content page)) k.0 k.1, narrow (length (page_of x.content page)) k.1)) tt, tt)
    over false e = tt

pub on_pull_fits : (f : Frame) (from : ℕ) (file : FileId) (stamp : Stamp) (page : ℕ) (s : Store) → IsListed f.members.boot from → files.Fits file → stamps.Fits stamp → StoreFits f.members.boot s → StoreDone f.members.boot (on_pull f from file stamp page s)
on_pull_fits f from file stamp page s listed at k h = (pulled_fits f from file stamp page (copy_of s file) listed at k (found_copy s (file_key file) h.copies), h)

-- ---- which pages to pull ----

abbrev Ascends : ℕ → List ℕ → Type 0
Ascends least pages = AllFit (λ floor. within (λ page. nat_le floor page) u16) (λ _ page. page + 1) least pages

at_least : (least page : ℕ) → least ≤ page → nat_le least page ≡ true
at_least least page le = grind (arith, nat_tests)

all_ascend : (first count : ℕ) → first + count ≤ 2 ^ 16 → Ascends first (pages_from first count)
all_ascend first zero few = tt
all_ascend first (suc more) few = ((at_least first first (omega arith), omega (arith, few)), all_ascend (first + 1) more (omega (arith, few)))

some_ascend : (test : ℕ → Bool) (least first count : ℕ) → least ≤ first → first + count ≤ 2 ^ 16 → Ascends least (filter test (pages_from first count))
some_ascend test least first zero le few = tt
some_ascend test least first (suc more) le few = over (λ floor low. some_ascend test floor (first + 1) more low (omega (arith, few))) (test first)
  where
    rest : List ℕ
    rest = filter test (pages_from (first + 1) more)

    over : ((floor : ℕ) → floor ≤ first + 1 → Ascends floor rest) → (b : Bool) → Ascends least (cond b (first ∷ rest) rest)
    over higher true = ((at_least least first le, omega (arith, few)), higher (first + 1) (omega arith))
    over higher false = higher least (omega (arith, le))

delta_fits : (count : ℕ) (since : Option (List ℕ)) → count ≤ 2 ^ 8 → page_numbers.Fits (delta_of count since)
delta_fits count None few = let e : length (pages_from 0 count) ≡ count = from_length 0 count in (omega (arith, e, few), all_ascend 0 count (omega (arith, few)))
delta_fits count (Some pages) few =
    let e : length (pages_from 0 count) ≡ count = from_length 0 count in
    let a : length (filter (is_among pages) (pages_from 0 count)) ≤ length (pages_from 0 count) = filter_most (is_among pages) (pages_from 0 count) in
    (omega (arith, a, e, few), some_ascend (is_among pages) 0 0 count (omega arith) (omega (arith, few)))

wanted_fits : (f : Frame) (from : ℕ) (file : FileId) (wanted own : Stamp) (s : Store) (o : Option FileCopy) → IsListed f.members.boot from → files.Fits file → stamps.Fits wanted → Found CopyFits o → Every (SentFits f.members.boot) (wanted_delta f from file wanted own s o)
wanted_fits f from file wanted own s None listed at k found = tt
wanted_fits f from file wanted own s (Some x) listed at k found = over (same_stamp x.stamp wanted)
  where
    pages : List ℕ
    pages = delta_of (pages_of (length x.content)) (pages_since own wanted (steps_of file s.steps))

    few : (n : ℕ) → n ≤ file_bytes_max → pages_of n ≤ 2 ^ 8
    few n most = omega (arith, most)

    over : (b : Bool) → Every (SentFits f.members.boot) (cond b (packet f from (body.Delta file wanted pages) ∷ []) [])
    over true = (one_fits f from (body.Delta file wanted pages) listed (at, (k, delta_fits (pages_of (length x.content)) (pages_since own wanted (steps_of file s.steps)) (few (length x.content) (size_most (length x.content) found.size)))) tt, tt)
    over false = tt

pub on_want_fits : (f : Frame) (from : ℕ) (file : FileId) (wanted own : Stamp) (s : Store) → IsListed f.members.boot from → files.Fits file → stamps.Fits wanted → StoreFits f.members.boot s → StoreDone f.members.boot (on_want f from file wanted own s)
on_want_fits f from file wanted own s listed at k h = (wanted_fits f from file wanted own s (copy_of s file) listed at k (found_copy s (file_key file) h.copies), h)
