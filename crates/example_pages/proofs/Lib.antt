mod WorkedPages
