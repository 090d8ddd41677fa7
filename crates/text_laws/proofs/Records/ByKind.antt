-- Records of each kind, from what is known of their parts.
use Rattle.std.proofs.Common.{◌≡◌, ◌≤◌, ℕ, true, ◌&&◌, refl, arith}
use Rattle.std.proofs.lemmas.Bool.Decides.{nat_tests}
use Rattle.plain_facts.proofs.Tests.{and_true}
use Rattle.locus_ids.specs.declared.ids.CallId.{CallId}
use Rattle.locus_ids.specs.declared.ids.EpochId.{EpochId}
use Rattle.locus_ids.specs.declared.sites.Members.{Members}
use Rattle.trace_book.specs.declared.call.Call.{Call}
use Rattle.trace_book.specs.declared.record.StopCause.{StopCause}
use Rattle.trace_book.specs.declared.record.Record.TheVariants as says
use Rattle.schedule_lines.specs.Ranges.{is_site}
use Rattle.record_reading.specs.Ranges.{is_any_site, is_call_id, is_counted, is_epoch, is_members, is_process, is_record, is_words}

-- a site of a cluster is one that any cluster can have
pub any_site : (n site : ℕ) → is_site n site ≡ true → is_any_site site ≡ true
any_site n site h = grind (arith, nat_tests)

pub counted : (n : ℕ) → 1 ≤ n → n ≤ 4294967295 → is_counted n ≡ true
counted n low high = grind (arith, nat_tests)

pub up_text : (site boot : ℕ) → is_any_site site ≡ true → is_counted boot ≡ true → is_record (says.Up site boot) ≡ true
up_text site boot a b = and_true (is_any_site site) (is_counted boot) a b

pub stopped_text : (site : ℕ) (cause : StopCause) → is_any_site site ≡ true → is_record (says.Stopped site cause) ≡ true
stopped_text site cause a = a

pub epoch_text : (e : EpochId) → is_counted e.number ≡ true → is_any_site e.site ≡ true → is_counted e.boot ≡ true → is_epoch e ≡ true
epoch_text e a b c = and_true (is_counted e.number) (is_any_site e.site && is_counted e.boot) a (and_true (is_any_site e.site) (is_counted e.boot) b c)

pub call_text : (id : CallId) → is_any_site id.site ≡ true → is_counted id.boot ≡ true → is_counted id.n ≡ true → is_call_id id ≡ true
call_text id a b c = and_true (is_any_site id.site) (is_counted id.boot && is_counted id.n) a (and_true (is_counted id.boot) (is_counted id.n) b c)

pub leave_text : (site : ℕ) (e : EpochId) → is_any_site site ≡ true → is_epoch e ≡ true → is_record (says.Leave site e) ≡ true
leave_text site e a b = and_true (is_any_site site) (is_epoch e) a b

pub join_text : (site : ℕ) (e : EpochId) (m : Members) → is_any_site site ≡ true → is_epoch e ≡ true → is_members m ≡ true → is_record (says.Join site e m) ≡ true
join_text site e m a b c = and_true (is_any_site site) (is_epoch e && is_members m) a (and_true (is_epoch e) (is_members m) b c)

pub accept_text : (site process : ℕ) (id : CallId) (words : Call) → is_any_site site ≡ true → is_process process ≡ true → is_call_id id ≡ true → is_words process words ≡ true → is_record (says.Accept site process id words) ≡ true
accept_text site process id words a b c d = and_true (is_any_site site) (is_process process && (is_call_id id && is_words process words)) a (and_true (is_process process) (is_call_id id && is_words process words) b (and_true (is_call_id id) (is_words process words) c d))

pub void_text : is_record says.Void ≡ true
void_text = refl

pub budget_text : is_record says.Budget ≡ true
budget_text = refl
