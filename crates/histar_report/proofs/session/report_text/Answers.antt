-- Proves the goals of `report_text` of src/session.rt that the search leaves open.
use Rattle.std.proofs.Common.{◌∙◌}
use Rattle.histar_io.proofs.Residuals.{passed_on}
use Rattle.histar_page.specs.Page.{Sources}
use Rattle.histar_report.specs.Session.{ShowsTable}
use Rattle.histar_report.proofs.TableFronts.{shown_alike}
use Rattle.histar_report.proofs.session.report_text.Goals as goal

pub returns-in_err-write_bytes-clause-runs : goal.returns-in_err-write_bytes-clause-runs
returns-in_err-write_bytes-clause-runs g c =
    let shows : ShowsTable c.args.text.now c.as_slice-3.result.now = rw c.as_slice-3.ensures.value c.in_ok-table.ensures in
    let kept : Sources = record {
      name = c.args.name.now;
      version = c.args.version.now;
      script = c.args.text.now;
      output = c.as_slice.result.now;
      reasons = c.as_slice-2.result.now;
      table = c.as_slice-3.result.now;
      secrets = c.as_slice-4.result.now;
      titles = c.as_slice-5.result.now;
      flows = c.as_slice-6.result.now;
    } in
    rw (passed_on _ _ c.from_residual-in_err-write_bytes.ensures.1) (record {
      output = c.as_slice.result.now;
      is_output = rw c.as_slice.ensures.value c.in_ok-output.ensures;
      reasons = c.as_slice-2.result.now;
      are_reasons = rw c.as_slice-2.ensures.value c.in_ok-reasons.ensures;
      table = shows.0;
      is_table = shows.1;
      secrets = c.as_slice-4.result.now;
      are_secrets = rw c.as_slice-4.ensures.value c.in_ok-secret_lines.ensures;
      titles = c.as_slice-5.result.now;
      are_titles = rw c.as_slice-5.ensures.value c.in_ok-title_lines.ensures;
      flows = c.as_slice-6.result.now;
      are_flows = rw c.as_slice-6.ensures.value c.in_ok-flow_lines.ensures;
      page = c.as_slice-7.result.now;
      is_page = c.as_slice-7.ensures.value ∙ c.in_ok-page.ensures ∙ shown_alike kept shows.0 shows.2;
      written = c.in_err-write_bytes.ensures.err;
    })

pub returns-clause-runs : goal.returns-clause-runs
returns-clause-runs g c =
    let shows : ShowsTable c.args.text.now c.as_slice-3.result.now = rw c.as_slice-3.ensures.value c.in_ok-table.ensures in
    let kept : Sources = record {
      name = c.args.name.now;
      version = c.args.version.now;
      script = c.args.text.now;
      output = c.as_slice.result.now;
      reasons = c.as_slice-2.result.now;
      table = c.as_slice-3.result.now;
      secrets = c.as_slice-4.result.now;
      titles = c.as_slice-5.result.now;
      flows = c.as_slice-6.result.now;
    } in
    record {
      output = c.as_slice.result.now;
      is_output = rw c.as_slice.ensures.value c.in_ok-output.ensures;
      reasons = c.as_slice-2.result.now;
      are_reasons = rw c.as_slice-2.ensures.value c.in_ok-reasons.ensures;
      table = shows.0;
      is_table = shows.1;
      secrets = c.as_slice-4.result.now;
      are_secrets = rw c.as_slice-4.ensures.value c.in_ok-secret_lines.ensures;
      titles = c.as_slice-5.result.now;
      are_titles = rw c.as_slice-5.ensures.value c.in_ok-title_lines.ensures;
      flows = c.as_slice-6.result.now;
      are_flows = rw c.as_slice-6.ensures.value c.in_ok-flow_lines.ensures;
      page = c.as_slice-7.result.now;
      is_page = c.as_slice-7.ensures.value ∙ c.in_ok-page.ensures ∙ shown_alike kept shows.0 shows.2;
      written = c.in_ok-write_bytes.ensures.ok;
    }
