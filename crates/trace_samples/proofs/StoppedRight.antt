-- The run of a site that stops is lawful: each of its records comes as it may. All of it computes.
use Rattle.std.specs.Prelude.{◌≡◌, refl, true}
use Rattle.std.proofs.Common.{inl}
use Rattle.schedule_lines.specs.Cluster.{config_of}
use Rattle.lawful_trace.specs.Lawful.{EachComes}
use Rattle.lawful_trace.specs.LineRows.{are_told}
use Rattle.lawful_trace.specs.Disks.{keeps_calls}
use Rattle.lawful_trace.specs.Samples.{first_of, IsRight}
use Rattle.trace_samples.specs.StoppedRun.{stopped_run, stopped_lines, stopped_trace}

-- the first so many records come as they may

upto_1 : EachComes (config_of stopped_lines) stopped_lines (first_of 1 stopped_trace)
upto_1 = (record { consistent = record { ascending = refl; row = record { up = refl; outside = refl; new = refl; later = refl; same = inl refl; member = refl } }; placed = refl; asked = record { asked = refl } }, tt)

upto_2 : EachComes (config_of stopped_lines) stopped_lines (first_of 2 stopped_trace)
upto_2 = (record { consistent = record { ascending = refl; row = record { gives = refl; served = refl; whole = refl } }; placed = refl; asked = tt }, upto_1)

upto_3 : EachComes (config_of stopped_lines) stopped_lines (first_of 3 stopped_trace)
upto_3 = (record { consistent = record { ascending = refl; row = record { up = refl; idle = refl; numbered = refl } }; placed = refl; asked = record { asked = refl } }, upto_2)

upto_4 : EachComes (config_of stopped_lines) stopped_lines (first_of 4 stopped_trace)
upto_4 = (record { consistent = record { ascending = refl; row = record { opens = record { served = refl; step = record { accepted = _; named = refl; made_in = refl }; numbered = refl; asked = refl }; gives = refl; there = refl } }; placed = refl; asked = tt }, upto_3)

upto_5 : EachComes (config_of stopped_lines) stopped_lines (first_of 5 stopped_trace)
upto_5 = (record { consistent = record { ascending = refl; row = record { gives = refl; there = refl; step = record { call = _; owned = refl; step = record { accepted = _; named = refl; made_in = refl }; asked = refl } } }; placed = refl; asked = tt }, upto_4)

upto_6 : EachComes (config_of stopped_lines) stopped_lines (first_of 6 stopped_trace)
upto_6 = (record { consistent = record { ascending = refl; row = record { opens = record { served = refl; step = record { accepted = _; named = refl; made_in = refl }; numbered = refl; asked = refl }; gives = refl; there = refl } }; placed = refl; asked = tt }, upto_5)

upto_7 : EachComes (config_of stopped_lines) stopped_lines (first_of 7 stopped_trace)
upto_7 = (record { consistent = record { ascending = refl; row = record { epoch = _; inside = refl; instance = _; one = refl; at = refl; owes = refl; same = refl; above = refl; numbered = refl } }; placed = refl; asked = tt }, upto_6)

upto_8 : EachComes (config_of stopped_lines) stopped_lines (first_of 8 stopped_trace)
upto_8 = (record { consistent = record { ascending = refl; row = tt }; placed = refl; asked = record { working = refl; armed = refl; counted = refl } }, upto_7)

upto_9 : EachComes (config_of stopped_lines) stopped_lines (first_of 9 stopped_trace)
upto_9 = (record { consistent = record { ascending = refl; row = record { stopped = refl; above = refl } }; placed = refl; asked = record { asked = refl } }, upto_8)

upto_10 : EachComes (config_of stopped_lines) stopped_lines (first_of 10 stopped_trace)
upto_10 = (record { consistent = record { ascending = refl; row = record { up = refl } }; placed = refl; asked = record { asked = refl } }, upto_9)

upto_11 : EachComes (config_of stopped_lines) stopped_lines (first_of 11 stopped_trace)
upto_11 = (record { consistent = record { ascending = refl; row = tt }; placed = refl; asked = record { working = refl; armed = refl; counted = refl } }, upto_10)

upto_12 : EachComes (config_of stopped_lines) stopped_lines (first_of 12 stopped_trace)
upto_12 = (record { consistent = record { ascending = refl; row = record { stopped = refl; above = refl } }; placed = refl; asked = record { asked = refl } }, upto_11)

upto_13 : EachComes (config_of stopped_lines) stopped_lines (first_of 13 stopped_trace)
upto_13 = (record { consistent = record { ascending = refl; row = record { up = refl; outside = refl; new = refl; later = refl; same = inl refl; member = refl } }; placed = refl; asked = record { asked = refl } }, upto_12)

upto_14 : EachComes (config_of stopped_lines) stopped_lines (first_of 14 stopped_trace)
upto_14 = (record { consistent = record { ascending = refl; row = record { gives = refl; served = refl; whole = refl } }; placed = refl; asked = tt }, upto_13)

upto_15 : EachComes (config_of stopped_lines) stopped_lines (first_of 15 stopped_trace)
upto_15 = (record { consistent = record { ascending = refl; row = record { up = refl; idle = refl; numbered = refl } }; placed = refl; asked = record { asked = refl } }, upto_14)

upto_16 : EachComes (config_of stopped_lines) stopped_lines (first_of 16 stopped_trace)
upto_16 = (record { consistent = record { ascending = refl; row = record { gives = refl; served = refl; step = record { accepted = _; named = refl; made_in = refl }; numbered = refl; asked = refl } }; placed = refl; asked = tt }, upto_15)

upto_17 : EachComes (config_of stopped_lines) stopped_lines (first_of 17 stopped_trace)
upto_17 = (record { consistent = record { ascending = refl; row = record { caller = _; waits = refl; given = _; gives = refl; text = refl } }; placed = refl; asked = tt }, upto_16)

told : are_told stopped_lines stopped_trace ≡ true
told = refl

calls : keeps_calls (config_of stopped_lines) stopped_lines stopped_trace ≡ true
calls = refl

pub stopped_is_lawful : IsRight stopped_run
stopped_is_lawful = record { each = upto_17; told = told; calls = calls }
