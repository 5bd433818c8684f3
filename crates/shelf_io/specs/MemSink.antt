-- What a sink in memory that fails where it is told to was given and counts. This project's own.
use Rattle.std.specs.Prelude.{Some}
use Rattle.shelf_io.specs.declared.failing_calls.FailingCalls.{FailingCalls}
use Rattle.shelf_io.specs.declared.mem_sink.MemSink.{MemSink}
use Rattle.shelf_io.specs.States.{SinkState}

-- its state: it tells the bytes that were written always
abbrev pub sink_state : MemSink → SinkState
sink_state sink = record { written = Some sink.bytes.items; faults = sink.faults }

-- the calls that it counted, and those that are to fail
abbrev pub sink_calls : MemSink → FailingCalls
sink_calls sink = sink.calls
