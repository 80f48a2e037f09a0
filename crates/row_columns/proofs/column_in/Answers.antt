-- `row_columns::column_in` meets its contract, by what is asked for. Assumes nothing.
use Rattle.row_columns.proofs.column_in.Goals as goal

pub returns-in-Char : goal.returns-in-Char
returns-in-Char c = rw c.in-Char.is c.char_col_in.ensures

pub returns-in-Visual : goal.returns-in-Visual
returns-in-Visual c = rw c.in-Visual.is c.visual_col_in.ensures

pub returns-in-Cursor : goal.returns-in-Cursor
returns-in-Cursor c = rw c.in-Cursor.is c.cursor_col_in.ensures
