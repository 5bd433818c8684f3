use Rattle.std.proofs.Common.{ap, take, drop, sym, ◌∙◌, Err}
use Rattle.std.proofs.lemmas.List.{take-append-drop}
use Rattle.branch_bound.proofs.line.write_piece.Goals as goal

pub returns-in-Err-Failed-clause-refused : goal.returns-in-Err-Failed-clause-refused
returns-in-Err-Failed-clause-refused g c = record {
  piece = take c.in-Err-Failed.ensures.refused.0 c.args.piece.now;
  rest = drop c.in-Err-Failed.ensures.refused.0 c.args.piece.now;
  begins = sym (take-append-drop c.in-Err-Failed.ensures.refused.0 c.args.piece.now);
  written = c.in-Err-Failed.ensures.refused.1;
  later = c.append.ensures.cause.later;
  failed = λ why. c.append.ensures.cause.failed (c.in-Err-Failed.is ∙ ap Err c.in-Err-Failed.field-0-is);
  no_memory = λ why. absurd (cc);
}

pub returns-in-Err-NoMemory-clause-refused : goal.returns-in-Err-NoMemory-clause-refused
returns-in-Err-NoMemory-clause-refused g c = record {
  piece = take c.in-Err-NoMemory.ensures.refused.0 c.args.piece.now;
  rest = drop c.in-Err-NoMemory.ensures.refused.0 c.args.piece.now;
  begins = sym (take-append-drop c.in-Err-NoMemory.ensures.refused.0 c.args.piece.now);
  written = c.in-Err-NoMemory.ensures.refused.1;
  later = c.append.ensures.cause.later;
  failed = λ why. absurd (cc);
  no_memory = λ why. c.append.ensures.cause.no_memory (c.in-Err-NoMemory.is ∙ ap Err c.in-Err-NoMemory.field-0-is);
}
