use Rattle.std.proofs.Common.{pos, sym, arith, rules, le→leb}
use Rattle.line_reader.specs.Numbers.{IsNumberFault}
use Rattle.line_reader.proofs.Decimals.{no_number}
use Rattle.command_words.proofs.WordFacts.{no_number_written}
use Rattle.command_words.proofs.command_line.plain_number.Goals as goal

pub returns-in-Err-clause-number : goal.returns-in-Err-clause-number
returns-in-Err-clause-number c =
    let fault : IsNumberFault (pos 0) (pos c.args.most) c.args.text.now c.in-Err.field-0 = search rules in
    sym (no_number_written c.args.most c.args.text.now
    (λ n is small. no_number c.args.text.now (pos 0) (pos c.args.most) (pos n) c.in-Err.field-0 fault is (record { le = le→leb 0 n (omega arith) }, record { le = le→leb n c.args.most small })))
