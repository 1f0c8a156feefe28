-- How a run of one command may end.
use Rattle.std.proofs.Common.{◌≡◌, ℕ, ◌≤◌, List, length, Option, inl, inr, refl, sym, ap, subst}
use Rattle.std.specs.Io.KnownBytes.{Appends}
use Rattle.io_ends.specs.Counts.{Counted}
use Rattle.io_ends.specs.Ends.{AppendsFront}
use Rattle.io_ends.specs.declared.transfer.ReadEnd.TheVariants as ends
use Rattle.compact_main.specs.declared.command.Command.{Command}
use Rattle.compact_main.specs.declared.status.Failure.{Failure}
use Rattle.compact_main.specs.declared.status.Failure.TheVariants as failures
use Rattle.compact_main.specs.declared.status.Why.{Why}
use Rattle.compact_main.specs.declared.status.Why.TheVariants.{TooLong}
use Rattle.compact_main.specs.declared.status.Status.{Status}
use Rattle.compact_main.specs.declared.status.Status.TheVariants.{Done, Refused, ReadFault, WriteFault, NoMemory}
use Rattle.compact_main.specs.Commands.{Asks, IsThe}
use Rattle.compact_main.specs.Intakes.{intake_of, limit_of, Takes, IsReadOut, IsGiven}
use Rattle.compact_main.specs.Outputs.{Output, IsValid, FirstFailure}
use Rattle.compact_main.specs.Runs.{Answers, IsFailed, Completes, IsRun}
use Rattle.compact_main.specs.Statuses.{status_of}
use Rattle.compact_main.specs.inner.Readings.{IsGivenUp}
use Rattle.compact_main.specs.inner.Writes.{IsWritten}
use Rattle.compact_main.proofs.CommandAnswers.{output_valid, command_answer}
use Rattle.compact_main.proofs.CommandWords.{one_command}
use Rattle.compact_main.proofs.RunReadings.{whole_text, gave_some, not_given, over_whole}

-- the same answers, where the same commands are asked for
module _ {S : Type 0} {A B : Command → Type 0} (to : (c : Command) → A c → B c) (left : S → Option (List ℕ)) (source source' : S) where
  answers_for : (written : List ℕ) → Answers A left source source' written → Answers B left source source' written
  answers_for written a =
      record { command = a.command; text = a.text; asked = to a.command a.asked; read = a.read; to_the_end = a.to_the_end; output = a.output }

  failed_to : (failure : Failure) → IsFailed A failure left source source' → IsFailed B failure left source source'
  failed_to failure d =
      record { command = d.command; text = d.text; asked = to d.command d.asked; read = d.read; to_the_end = d.to_the_end; fault = d.fault }

-- the same run
module _ {S K : Type 0} {A B : Command → Type 0} (to : (c : Command) → A c → B c) (back : (c : Command) → B c → A c)
    (left : S → Option (List ℕ)) (read_faults : S → ℕ) (source source' : S) (held : K → Option (List ℕ)) (write_faults : K → ℕ) (out out' : K)
    (status : Status) where
  pub run_for : IsRun A left read_faults source source' held write_faults out out' status →
      IsRun B left read_faults source source' held write_faults out out' status
  run_for run = record {
    bad_words = (λ is c asked. run.bad_words.0 is c (back c asked), λ none. run.bad_words.1 (λ c asked. none c (to c asked)));
    nothing_read = run.nothing_read;
    done = λ is. let d = run.done is in
        record { written = d.written; answers = answers_for to left source source' d.written d.answers; appended = d.appended };
    write_fault = λ is. let d = run.write_fault is in
        record { written = d.written; answers = answers_for to left source source' d.written d.answers; appended = d.appended };
    refused = λ why is. failed_to to left source source' (failures.Refused why) (run.refused why is);
    not_proved = λ unproved is. failed_to to left source source' (failures.NotProved unproved) (run.not_proved unproved is);
    read_fault = λ is. let d = run.read_fault is in
        record { command = d.command; given = d.given; asked = to d.command d.asked; read = d.read; within = d.within };
    no_memory = λ is. let d = run.no_memory is in
        record { command = d.command; given = d.given; asked = to d.command d.asked; read = d.read; within = d.within };
    nothing_written = run.nothing_written;
    read_counted = run.read_counted;
    read_uncounted = run.read_uncounted;
    write_counted = run.write_counted;
    write_uncounted = run.write_uncounted;
    completes = λ command text asked. run.completes command text (back command asked);
  }

-- a run that has no answer for its text
module _ {S K : Type 0} (command : Command)
    (left : S → Option (List ℕ)) (read_faults : S → ℕ) (source source' : S) (held : K → Option (List ℕ)) (write_faults : K → ℕ) (out : K)
    (text : List ℕ) (read : Takes (intake_of command) left source source' text) (end : IsReadOut (intake_of command) left source')
    (same : read_faults source' ≡ read_faults source) where
  failed_for : (found failure : Failure) → found ≡ failure → FirstFailure command text found → IsFailed (IsThe command) failure left source source'
  failed_for found failure is fault =
      subst (λ (f : Failure). IsFailed (IsThe command) f left source source') is
      (record {
        command = command;
        text = text;
        asked = refl;
        read = read;
        to_the_end = λ other. end;
        fault = fault;
      })

  -- no other answer is right
  failed_alone : (found : Failure) → FirstFailure command text found → (c : Command) (whole : List ℕ) → c ≡ command →
      IsGiven (intake_of c) left read_faults source source' whole → Completes c whole (status_of found)
  failed_alone found fault c whole asked given =
      let told = subst (λ (k : Command). IsGiven (intake_of k) left read_faults source source' whole) asked given in
      let is_all = whole_text left read_faults source source' (intake_of command) text whole told read end in
      let first : FirstFailure command whole found = subst (λ (t : List ℕ). FirstFailure command t found) is_all fault in
      let one = command_answer command whole in
      subst (λ (k : Command). Completes k whole (status_of found)) (sym asked) (record {
        done = λ valid. absurd (one.not_both tt found valid first);
        refused = λ why other. inl (ap status_of (one.one_fault found (failures.Refused why) first other));
        not_proved = λ unproved other. inl (ap status_of (one.one_fault found (failures.NotProved unproved) first other));
      })

  pub failed_run : (found : Failure) → FirstFailure command text found →
      IsRun (IsThe command) left read_faults source source' held write_faults out out (status_of found)
  failed_run (failures.Refused why) fault = record {
    bad_words = (λ is. absurd cc, λ none. absurd (none command refl));
    nothing_read = λ is. absurd cc;
    done = λ is. absurd cc;
    write_fault = λ is. absurd cc;
    refused = λ other is. failed_for (failures.Refused why) (failures.Refused other) (cc) fault;
    not_proved = λ unproved is. absurd cc;
    read_fault = λ is. absurd cc;
    no_memory = λ is. absurd cc;
    nothing_written = λ undone whole. refl;
    read_counted = λ is. absurd cc;
    read_uncounted = λ other. same;
    write_counted = λ is. absurd cc;
    write_uncounted = λ other. refl;
    completes = λ c whole asked given steady. failed_alone (failures.Refused why) fault c whole asked given;
  }
  failed_run (failures.NotProved unproved) fault = record {
    bad_words = (λ is. absurd cc, λ none. absurd (none command refl));
    nothing_read = λ is. absurd cc;
    done = λ is. absurd cc;
    write_fault = λ is. absurd cc;
    refused = λ why is. absurd cc;
    not_proved = λ other is. failed_for (failures.NotProved unproved) (failures.NotProved other) (cc) fault;
    read_fault = λ is. absurd cc;
    no_memory = λ is. absurd cc;
    nothing_written = λ undone whole. refl;
    read_counted = λ is. absurd cc;
    read_uncounted = λ other. same;
    write_counted = λ is. absurd cc;
    write_uncounted = λ other. refl;
    completes = λ c whole asked given steady. failed_alone (failures.NotProved unproved) fault c whole asked given;
  }

-- a run that gave its reading up
module _ {S K : Type 0} (command : Command)
    (left : S → Option (List ℕ)) (read_faults : S → ℕ) (source source' : S) (held : K → Option (List ℕ)) (write_faults : K → ℕ) (out : K) where
  long_for : (why : Why) (given : List ℕ) → Refused TooLong ≡ Refused why → Takes (intake_of command) left source source' given →
      FirstFailure command given (failures.Refused TooLong) → IsFailed (IsThe command) (failures.Refused why) left source source'
  long_for why given is read more =
      let same : TooLong ≡ why = cc in
      subst (λ (w : Why). IsFailed (IsThe command) (failures.Refused w) left source source') same
      (record {
        command = command;
        text = given;
        asked = refl;
        read = read;
        to_the_end = λ other. absurd (other refl);
        fault = more;
      })

  pub long_run : (given : List ℕ) → Takes (intake_of command) left source source' given → FirstFailure command given (failures.Refused TooLong) →
      read_faults source' ≡ read_faults source →
      IsRun (IsThe command) left read_faults source source' held write_faults out out (Refused TooLong)
  long_run given read more same = record {
    bad_words = (λ is. absurd cc, λ none. absurd (none command refl));
    nothing_read = λ is. absurd cc;
    done = λ is. absurd cc;
    write_fault = λ is. absurd cc;
    refused = λ other is. long_for other given is read more;
    not_proved = λ unproved is. absurd cc;
    read_fault = λ is. absurd cc;
    no_memory = λ is. absurd cc;
    nothing_written = λ undone whole. refl;
    read_counted = λ is. absurd cc;
    read_uncounted = λ other. same;
    write_counted = λ is. absurd cc;
    write_uncounted = λ other. refl;
    completes = λ c whole asked told steady.
        let known = subst (λ (k : Command). IsGiven (intake_of k) left read_faults source source' whole) asked told in
        let first : FirstFailure command whole (failures.Refused TooLong) =
        over_whole left read_faults source source' given whole command known read more in
        let one = command_answer command whole in
        subst (λ (k : Command). Completes k whole (Refused TooLong)) (sym asked) (record {
          done = λ valid. absurd (one.not_both tt (failures.Refused TooLong) valid first);
          refused = λ other found. inl (ap status_of (one.one_fault (failures.Refused TooLong) (failures.Refused other) first found));
          not_proved = λ other found. inl (ap status_of (one.one_fault (failures.Refused TooLong) (failures.NotProved other) first found));
        });
  }

  pub fault_run : IsGivenUp (intake_of command) left source source' ends.ReadFault → Counted (read_faults source) (read_faults source') →
      IsRun (IsThe command) left read_faults source source' held write_faults out out ReadFault
  fault_run up counted = record {
    bad_words = (λ is. absurd cc, λ none. absurd (none command refl));
    nothing_read = λ is. absurd cc;
    done = λ is. absurd cc;
    write_fault = λ is. absurd cc;
    refused = λ why is. absurd cc;
    not_proved = λ unproved is. absurd cc;
    read_fault = λ is.
        let (given, read, within) = gave_some left read_faults source source' (intake_of command) up in
        record { command = command; given = given; asked = refl; read = read; within = within };
    no_memory = λ is. absurd cc;
    nothing_written = λ undone whole. refl;
    read_counted = λ is. counted;
    read_uncounted = λ other. absurd (other refl);
    write_counted = λ is. absurd cc;
    write_uncounted = λ other. refl;
    completes = λ c whole asked told steady.
        let known = subst (λ (k : Command). IsGiven (intake_of k) left read_faults source source' whole) asked told in
        absurd (not_given left read_faults source source' (intake_of command) whole up counted.rose known);
  }

  pub stopped_run : (given : List ℕ) → Takes (intake_of command) left source source' given → length given ≤ limit_of command →
      read_faults source' ≡ read_faults source →
      IsRun (IsThe command) left read_faults source source' held write_faults out out NoMemory
  stopped_run given read within same = record {
    bad_words = (λ is. absurd cc, λ none. absurd (none command refl));
    nothing_read = λ is. absurd cc;
    done = λ is. absurd cc;
    write_fault = λ is. absurd cc;
    refused = λ why is. absurd cc;
    not_proved = λ unproved is. absurd cc;
    read_fault = λ is. absurd cc;
    no_memory = λ is. record { command = command; given = given; asked = refl; read = read; within = within };
    nothing_written = λ undone whole. refl;
    read_counted = λ is. absurd cc;
    read_uncounted = λ other. same;
    write_counted = λ is. absurd cc;
    write_uncounted = λ other. refl;
    completes = λ c whole asked told steady.
        record { done = λ valid. inr refl; refused = λ why fault. inr refl; not_proved = λ unproved fault. inr refl };
  }

-- a run that wrote, or began to
module _ {S K : Type 0} (command : Command)
    (left : S → Option (List ℕ)) (read_faults : S → ℕ) (source source' : S) (held : K → Option (List ℕ)) (write_faults : K → ℕ) (out out' : K)
    (text written : List ℕ) (read : Takes (intake_of command) left source source' text) (end : IsReadOut (intake_of command) left source')
    (output : Output command text written)
    (same_read : read_faults source' ≡ read_faults source) where
  answers : Answers (IsThe command) left source source' written
  answers = record {
    command = command;
    text = text;
    asked = refl;
    read = read;
    to_the_end = end;
    output = output;
  }

  done_run : Appends (held out) (held out') written → write_faults out' ≡ write_faults out →
      IsRun (IsThe command) left read_faults source source' held write_faults out out' Done
  done_run appended same_write = record {
    bad_words = (λ is. absurd cc, λ none. absurd (none command refl));
    nothing_read = λ is. absurd cc;
    done = λ is. record { written = written; answers = answers; appended = appended };
    write_fault = λ is. absurd cc;
    refused = λ why is. absurd cc;
    not_proved = λ unproved is. absurd cc;
    read_fault = λ is. absurd cc;
    no_memory = λ is. absurd cc;
    nothing_written = λ undone whole. absurd (undone refl);
    read_counted = λ is. absurd cc;
    read_uncounted = λ other. same_read;
    write_counted = λ is. absurd cc;
    write_uncounted = λ other. same_write;
    completes = λ c whole asked given steady.
        let known = subst (λ (k : Command). IsGiven (intake_of k) left read_faults source source' whole) asked given in
        let is_all = whole_text left read_faults source source' (intake_of command) text whole known read end in
        let valid : IsValid command whole = subst (λ (t : List ℕ). IsValid command t) is_all (output_valid command text written output) in
        subst (λ (k : Command). Completes k whole Done) (sym asked)
        (record {
          done = λ v. inl refl;
          refused = λ why fault. absurd ((command_answer command whole).not_both tt (failures.Refused why) valid fault);
          not_proved = λ unproved fault. absurd ((command_answer command whole).not_both tt (failures.NotProved unproved) valid fault);
        });
  }

  broken_run : AppendsFront (held out) (held out') written → Counted (write_faults out) (write_faults out') →
      IsRun (IsThe command) left read_faults source source' held write_faults out out' WriteFault
  broken_run front counted = record {
    bad_words = (λ is. absurd cc, λ none. absurd (none command refl));
    nothing_read = λ is. absurd cc;
    done = λ is. absurd cc;
    write_fault = λ is. record { written = written; answers = answers; appended = front };
    refused = λ why is. absurd cc;
    not_proved = λ unproved is. absurd cc;
    read_fault = λ is. absurd cc;
    no_memory = λ is. absurd cc;
    nothing_written = λ undone whole. absurd (whole refl);
    read_counted = λ is. absurd cc;
    read_uncounted = λ other. same_read;
    write_counted = λ is. counted;
    write_uncounted = λ other. absurd (other refl);
    completes = λ c whole asked given steady. absurd (steady counted.rose);
  }

  pub written_run : (status : Status) → IsWritten written (held out) (held out') (write_faults out) (write_faults out') status →
      IsRun (IsThe command) left read_faults source source' held write_faults out out' status
  written_run status (inl (is, appended, same_write)) = rw is (done_run appended same_write)
  written_run status (inr (is, front, counted)) = rw is (broken_run front counted)

-- the run of the command that the words ask for
pub asked_run : {S K : Type 0} (words : List (List ℕ)) (command : Command) (left : S → Option (List ℕ)) (read_faults : S → ℕ) (source source' : S)
    (held : K → Option (List ℕ)) (write_faults : K → ℕ) (out out' : K) (status : Status) → Asks words command →
    IsRun (IsThe command) left read_faults source source' held write_faults out out' status →
    IsRun (Asks words) left read_faults source source' held write_faults out out' status
asked_run words command left read_faults source source' held write_faults out out' status asks run =
    run_for {A = IsThe command} {B = Asks words} (λ c is. subst (Asks words) (sym is) asks) (λ c asked. one_command words c command asked asks)
    left read_faults source source' held write_faults out out' status run
