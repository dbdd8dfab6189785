-- An answer as C sees it: its number, and what document 01 gives for it.
use Rattle.rules.specs.Answers.{Answer, number, given, from_number}
use Rattle.c_report.specs.declared.Report.{Report}

-- What C is given of an answer.
unfoldable pub exported : Answer → Report
exported a =
    let r = given a in
    record {
      number = number a;
      steps = r.steps;
      unit = r.at.unit;
      position = r.at.position;
      file = r.file;
      start = r.start;
      len = r.len;
      from = from_number r.from;
    }
