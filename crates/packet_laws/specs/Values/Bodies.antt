-- What bodies of packets say but for their counts.
use Rattle.std.specs.Prelude.{ℕ, ◌≤◌, List}
use Rattle.locus_ids.specs.declared.ids.Serial.{Serial}
use Rattle.field_codec.specs.Codec.{followed_by}
use Rattle.wire_fields.specs.Parts.{sites, processes, files, files_or_new, some_set, stamps, ascending_stamps, vectors}
use Rattle.wire_fields.specs.declared.asked.Asked.TheVariants as asked
use Rattle.wire_fields.specs.declared.asked.Gave.TheVariants as gave
use Rattle.wire_fields.specs.Operations.{ops, outcomes, whats}
use Rattle.wire_messages.specs.Answers.{is_new, modes, openings, opened_answers, granted_answers, made_answers, close_answers, look_answers}
use Rattle.wire_messages.specs.Bodies.{FitsBody}
use Rattle.wire_messages.specs.declared.body.Body.{Body}
use Rattle.wire_messages.specs.declared.body.Body.TheVariants as body
use Rattle.wire_messages.specs.declared.body.Granted.TheVariants as granted
use Rattle.role_steps.specs.Views.{boot_in}

-- the instance is of one of the sixteen sites, and its serial number isn't 0
abbrev pub IsNamed : Serial → Type 0
IsNamed inst = sites.Fits inst.us × (1 ≤ inst.serial)

-- each field of the body is of its format, but for how great its counts are; those by which sites agree on an epoch aside
abbrev pub FitsBut : Body → Type 0
FitsBut (body.Open serial call process request file how) = (1 ≤ serial) × processes.Fits process × files_or_new.Fits file × (openings (is_new file)).Fits how
FitsBut (body.OpenSs inst file mode set k base vector parents) = IsNamed inst × (followed_by files_or_new (λ f. modes (is_new f))).Fits (file, mode) × some_set.Fits set × stamps.Fits base × vectors.Fits vector × ascending_stamps.Fits parents
FitsBut (body.Opened inst answer) = IsNamed inst × opened_answers.Fits answer
FitsBut (body.OpenDone serial answer) = (1 ≤ serial) × granted_answers.Fits answer
FitsBut (body.Op serial number op seen) = (1 ≤ serial) × ops.Fits (asked.Op op seen)
FitsBut (body.OpDone serial number outcome) = (1 ≤ serial) × outcomes.Fits (gave.Outcome outcome)
FitsBut (body.ReadHeld serial number at len) = (1 ≤ serial) × ops.Fits (asked.Held at len)
FitsBut (body.AsHeld serial number len) = (1 ≤ serial) × outcomes.Fits (gave.AsHeld len)
FitsBut (body.Close serial) = 1 ≤ serial
FitsBut (body.Closed inst version) = IsNamed inst × made_answers.Fits version
FitsBut (body.ClosedOk inst) = IsNamed inst
FitsBut (body.CloseDone serial answer) = (1 ≤ serial) × close_answers.Fits answer
FitsBut (body.Look call process request take file what) = processes.Fits process × files.Fits file × whats.Fits what
FitsBut (body.LookSs us call process request take file what serve) = sites.Fits us × processes.Fits process × files.Fits file × whats.Fits what × stamps.Fits serve
FitsBut (body.LookDone call request take answer) = look_answers.Fits answer
FitsBut body.Poll = Unit {0}
FitsBut (body.Promise reach) = Unit {0}
FitsBut (body.Refuse promised) = Unit {0}
FitsBut (body.Install members) = Unit {0}
FitsBut body.Joined = Unit {0}
FitsBut b = FitsBody b

-- the site has a boot in the list
abbrev pub IsListed : List ℕ → ℕ → Type 0
IsListed boots site = 1 ≤ boot_in boots site

-- a site that a packet is to be sent to, by what the body says, has a boot in the list
abbrev pub NamesListed : List ℕ → Body → Type 0
NamesListed boots (body.OpenSs inst file mode set k base vector parents) = IsListed boots inst.us
NamesListed boots (body.OpenDone serial (granted.Open ss ino size stamp vector)) = IsListed boots ss
NamesListed boots (body.LookSs us call process request take file what serve) = IsListed boots us
NamesListed boots (body.Notify file k set size stamp vector holder) = IsListed boots holder
NamesListed boots _ = Unit {0}

-- it names no such site
abbrev pub NamesNone : Body → Type 0
NamesNone b = (boots : List ℕ) → NamesListed boots b
