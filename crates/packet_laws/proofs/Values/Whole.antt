-- A body is of the format where it is but for its counts, and its counts have numbers of their sizes.
use Rattle.std.proofs.Common.{◌≤◌, ◌<◌, ◌^◌, ℕ, arith}
use Rattle.locus_ids.specs.declared.ids.Serial.{Serial}
use Rattle.wire_fields.specs.Parts.{instances, numbers}
use Rattle.wire_fields.proofs.Members.{in_range}
use Rattle.wire_messages.specs.Bodies.{FitsBody}
use Rattle.wire_messages.specs.declared.body.Body.{Body}
use Rattle.wire_messages.specs.declared.body.Body.TheVariants as body
use Rattle.run_laws.specs.Epochs.Forming.{FormsNone}
use Rattle.packet_order.specs.Counts.{IsCounted}
use Rattle.packet_laws.specs.Values.Bodies.{FitsBut, IsNamed}
use Rattle.packet_laws.proofs.Values.Fields.{kind_fits}

counted : (n : ℕ) → 1 ≤ n → n < 2 ^ 32 → numbers.Fits n
counted n low high = (in_range 1 4294967295 n low (omega (arith, high)), high)

named : (inst : Serial) → IsNamed inst → inst.serial < 2 ^ 32 → instances.Fits inst
named inst k high = (k.0, counted inst.serial k.1 high)

pub body_fits : (b : Body) → FormsNone b → FitsBut b → IsCounted b → FitsBody b
body_fits (body.Open serial call process request file how) n k h = (counted serial k.0 h.0, (h.1, (k.1, (h.2, (k.2, k.3)))))
body_fits (body.OpenSs inst file mode set kind base vector parents) n k h = (named inst k.0 h, (k.1, (k.2, (kind_fits kind, (k.3, (k.4, k.5))))))
body_fits (body.Opened inst answer) n k h = (named inst k.0 h, k.1)
body_fits (body.OpenDone serial answer) n k h = (counted serial k.0 h, k.1)
body_fits (body.Op serial number op seen) n k h = (counted serial k.0 h.0, (h.1, k.1))
body_fits (body.OpDone serial number outcome) n k h = (counted serial k.0 h.0, (h.1, k.1))
body_fits (body.ReadHeld serial number at len) n k h = (counted serial k.0 h.0, (h.1, k.1))
body_fits (body.AsHeld serial number len) n k h = (counted serial k.0 h.0, (h.1, k.1))
body_fits (body.Close serial) n k h = counted serial k h
body_fits (body.Closed inst version) n k h = (named inst k.0 h, k.1)
body_fits (body.ClosedOk inst) n k h = named inst k h
body_fits (body.CloseDone serial answer) n k h = (counted serial k.0 h, k.1)
body_fits (body.Look call process request take file what) n k h = (h.0, (k.0, (h.1, (h.2, (k.1, k.2)))))
body_fits (body.LookSs us call process request take file what serve) n k h = (k.0, ((h.0, (k.1, (h.1, (h.2, (k.2, k.3))))), k.4))
body_fits (body.LookDone call request take answer) n k h = (h.0, (h.1, (h.2, k)))
body_fits body.Poll n k h = absurd n
body_fits (body.Promise reach) n k h = absurd n
body_fits (body.Refuse promised) n k h = absurd n
body_fits (body.Install members) n k h = absurd n
body_fits body.Joined n k h = absurd n
body_fits x n k h = k
